-- What the loop of `apply_lines` keeps: so many lines are done.
use Rattle.std.proofs.Common.{◌*◌}
use Rattle.generator.specs.declared.Kind.TheVariants.{Ordinary}
use Rattle.generator.specs.Functions.{next_in}
use Rattle.keystream_words.specs.Keystream.{KeystreamUpTo}
use Rattle.keystream_words.proofs.apply_lines.Given as goal

abbrev pub invariant-loop-line : goal.invariant-loop-line
invariant-loop-line g l = KeystreamUpTo (l.line * g.L.Line.BYTES) (next_in l.tables Ordinary) 0 l.initial.t l.initial.buffer l.t l.buffer
