pub mod Lexer
pub mod Forms
pub mod Reading
pub mod Building
pub mod Loading
pub mod Starting
