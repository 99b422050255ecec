-- The number that each refusal has, and the one that a call answers with.
use Rattle.std.specs.Prelude.{ℕ, Result, Ok, Err}
use Rattle.refusals.specs.declared.Refusal.{Refusal}
use Rattle.refusals.specs.declared.Refusal.TheVariants.{KeyLength, IvLength, SizeMark, PositionAbove, TargetShorter, WindowPastEnd, NewPositionAbove, NewPositionBelow, KeyTargetLength, NoKeyLeads, NotCsv, RaggedRow, TooManyFields, ZeroKey, BlockLength}
use Rattle.refusals.specs.Numbers.{accepted, refused_key_length, refused_iv_length, refused_size_mark, refused_position_above, refused_target_shorter, refused_window_past_end, refused_new_position_above, refused_new_position_below, refused_key_target_length, refused_no_key_leads, refused_not_csv, refused_ragged_row, refused_too_many_fields, refused_zero_key, refused_block_length}

abbrev pub refusal_number : Refusal → ℕ
refusal_number KeyLength = refused_key_length
refusal_number IvLength = refused_iv_length
refusal_number SizeMark = refused_size_mark
refusal_number PositionAbove = refused_position_above
refusal_number TargetShorter = refused_target_shorter
refusal_number WindowPastEnd = refused_window_past_end
refusal_number NewPositionAbove = refused_new_position_above
refusal_number NewPositionBelow = refused_new_position_below
refusal_number KeyTargetLength = refused_key_target_length
refusal_number NoKeyLeads = refused_no_key_leads
refusal_number NotCsv = refused_not_csv
refusal_number RaggedRow = refused_ragged_row
refusal_number TooManyFields = refused_too_many_fields
refusal_number ZeroKey = refused_zero_key
refusal_number BlockLength = refused_block_length

-- "The lowest number that applies is returned, and otherwise 0.": the number of an answer that has a value where the call is accepted
abbrev pub number_of : {A : Type 0} → Result A Refusal → ℕ
number_of (Ok x) = accepted
number_of (Err r) = refusal_number r
