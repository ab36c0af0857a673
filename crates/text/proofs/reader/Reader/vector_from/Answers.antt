use Rattle.std.proofs.Common.{◌≡◌, refl, rules}
use Rattle.model.specs.declared.word.Mark.TheVariants.{Left}
use Rattle.model.specs.Syntax as S
use Rattle.model.specs.Tokens.{mark}
use Rattle.text.specs.Lexer.{token_of}
use Rattle.text.proofs.Ways.{none_read, node_read}
use Rattle.text.proofs.reader.Reader.vector_from.Goals as goal

pub returns-clause-read : goal.returns-clause-read
returns-clause-read c =
    let q : token_of c.args.token ≡ mark Left = search rules in
    let v = c.in_ok-vector.ensures.took in
    node_read (S.vec c.in_ok-vector.vector) (cc) c.push.ensures.items (none_read refl) refl
