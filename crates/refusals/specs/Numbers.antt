-- Document 01, the table of returned numbers, and those of document 02: each number has one name, here, in src/lib.rt and in the headers for C,
-- up to 10, 14 and 15 after STRUMOK_, and 5 and 11 to 13 after ORDERS_.
use Rattle.std.specs.Prelude.{◌≡◌, List, [], ◌∷◌, ℕ}

-- | 0 | not refused |
abbrev pub accepted : ℕ
accepted = 0

-- | 1 | key length neither 32 nor 64 |
abbrev pub refused_key_length : ℕ
refused_key_length = 1

-- | 2 | IV length not 32 |
abbrev pub refused_iv_length : ℕ
refused_iv_length = 2

-- | 3 | size mark neither 256 nor 512 |
abbrev pub refused_size_mark : ℕ
refused_size_mark = 3

-- | 4 | position above 16,777,216 |
abbrev pub refused_position_above : ℕ
refused_position_above = 4

-- | 5 | target shorter than source |
abbrev pub refused_target_shorter : ℕ
refused_target_shorter = 5

-- | 6 | window start + count above the buffer length, as whole numbers |
abbrev pub refused_window_past_end : ℕ
refused_window_past_end = 6

-- | 7 | new position would be above 16,777,216 |
abbrev pub refused_new_position_above : ℕ
refused_new_position_above = 7

-- | 8 | new position would be below 0 |
abbrev pub refused_new_position_below : ℕ
refused_new_position_below = 8

-- | 9 | key target length not size mark / 8 |
abbrev pub refused_key_target_length : ℕ
refused_key_target_length = 9

-- | 10 | no key of that size with that IV leads to this state |
abbrev pub refused_no_key_leads : ℕ
refused_no_key_leads = 10

-- ---- document 02, item 1

-- "11 is the first byte with which the text so far can no longer begin a text of this grammar, placed at that byte, or a text that ends inside
-- quotes or on a lone CR, placed at its end"
abbrev pub refused_not_csv : ℕ
refused_not_csv = 11

-- "12 is a row whose field count differs from the first row's, placed at its line end (the CR after its last field, whether or not an LF
-- follows, or the end of the text)"
abbrev pub refused_ragged_row : ℕ
refused_ragged_row = 12

-- "13 is more than 32 fields, placed at the row's 32nd separating comma"
abbrev pub refused_too_many_fields : ℕ
refused_too_many_fields = 13

-- ---- document 02, item 3

-- "14 is a key whose bytes are all zero"
abbrev pub refused_zero_key : ℕ
refused_zero_key = 14

-- ---- document 02, item 5

-- "15 is a key, source or target block whose length is not 32, the only test"
abbrev pub refused_block_length : ℕ
refused_block_length = 15

-- ---- the law: proofs/NumberLaws.antt has `number_laws : NumberLaws`

-- every number, in the order above
abbrev pub every_number : List ℕ
every_number =
    accepted ∷ refused_key_length ∷ refused_iv_length ∷ refused_size_mark ∷ refused_position_above ∷ refused_target_shorter ∷ refused_window_past_end ∷ refused_new_position_above
    ∷ refused_new_position_below ∷ refused_key_target_length ∷ refused_no_key_leads ∷ refused_not_csv ∷ refused_ragged_row ∷ refused_too_many_fields
    ∷ refused_zero_key ∷ refused_block_length ∷ []

pub record NumberLaws : Type 0 where
  -- in numerals
  pub numbers : every_number ≡ 0 ∷ 1 ∷ 2 ∷ 3 ∷ 4 ∷ 5 ∷ 6 ∷ 7 ∷ 8 ∷ 9 ∷ 10 ∷ 11 ∷ 12 ∷ 13 ∷ 14 ∷ 15 ∷ []
