-- `answers::check_state` meets its contract.
use mathlib.Core.Path.{sym}
use borrow.Author.Tests.{lt-ltb, le-ltb}
use Rattle.refusals.proofs.Tests.{one_of}
use Rattle.answers.specs.Tests.{limit}
use Rattle.answers.proofs.check_state.Goals as goal

pub returns-then-s-gt-LIMIT : goal.returns-then-s-gt-LIMIT
returns-then-s-gt-LIMIT c = sym (rw (one_of _ 256 512 c.in-256.is, lt-ltb limit _ c.if-s-gt-LIMIT.true))

pub returns-else-s-gt-LIMIT : goal.returns-else-s-gt-LIMIT
returns-else-s-gt-LIMIT c = sym (rw (one_of _ 256 512 c.in-256.is, le-ltb limit _ c.if-s-gt-LIMIT.false))
