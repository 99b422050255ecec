-- `recovering::key_words` meets its contract: the table of rows, read the other way.
use Rattle.std.proofs.Common.{rules}
use Rattle.galois.specs.Words.{at}
use Rattle.loading.proofs.Complement.{complement_is}
use Rattle.recovering.proofs.KeyWords.{words_256, words_512}
use Rattle.recovering.proofs.key_words.Goals as goal

pub returns-then-n-eq32 : goal.returns-then-n-eq32
returns-then-n-eq32 c =
    let a = c.args in
    rw (complement_is (at a.c 15) (search rules), complement_is (at a.c 13) (search rules)) (words_256 a.n (at a.v) a.c c.if-n-eq32.true)

pub returns-else-n-eq32 : goal.returns-else-n-eq32
returns-else-n-eq32 c =
    let a = c.args in
    rw (complement_is (at a.c 14) (search rules), complement_is (at a.c 9) (search rules), complement_is (at a.c 11) (search rules))
    (words_512 a.n (at a.v) a.c c.if-n-eq32.false)
