-- Words and marks read back. Assumes nothing.
use Rattle.std.proofs.Common.{refl}
use Rattle.model.specs.declared.word.Word.TheVariants as w
use Rattle.model.specs.declared.word.Mark.TheVariants.{Open}
use Rattle.model.specs.Bytes.{word_of, WordBack, MarkBack}

pub word_back : WordBack
unfolding word_of
word_back w.Empty = refl
word_back _ = refl

pub mark_back : MarkBack
mark_back Open = refl
mark_back _ = refl
