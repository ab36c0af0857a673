use Rattle.std.proofs.Common.{◌+◌, ◌-◌, ◌*◌, length}
use Rattle.text.proofs.reader.Reader.+reading.Given as goal

-- the bytes left fall with each token; with none taken, an element is handed on to a solid and to what follows its bracket
abbrev pub decreases-element_from : goal.decreases-element_from
decreases-element_from l = 4 * (length l.self.now.lexer.text.now - l.self.now.lexer.at) + 3

abbrev pub decreases-solid_from : goal.decreases-solid_from
decreases-solid_from l = 4 * (length l.self.now.lexer.text.now - l.self.now.lexer.at) + 2

abbrev pub decreases-inside_solid : goal.decreases-inside_solid
decreases-inside_solid l = 4 * (length l.self.now.lexer.text.now - l.self.now.lexer.at) + 1

abbrev pub decreases-element : goal.decreases-element
decreases-element l = 4 * (length l.self.now.lexer.text.now - l.self.now.lexer.at)

abbrev pub decreases-elements : goal.decreases-elements
decreases-elements l = 4 * (length l.self.now.lexer.text.now - l.self.now.lexer.at)

abbrev pub decreases-inside_list : goal.decreases-inside_list
decreases-inside_list l = 4 * (length l.self.now.lexer.text.now - l.self.now.lexer.at)

abbrev pub decreases-list : goal.decreases-list
decreases-list l = 4 * (length l.self.now.lexer.text.now - l.self.now.lexer.at)
