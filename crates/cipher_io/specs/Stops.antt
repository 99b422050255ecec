-- Why reading or writing stopped, as a number, 0 where it did not; and what the program says of it.
use Rattle.std.specs.Prelude.{List, ℕ, Option, None, Some, Result, Ok, Err}
use Rattle.text.specs.Text.{ascii}
use Rattle.cipher_io.specs.declared.stops.Stop.{Stop}
use Rattle.cipher_io.specs.declared.stops.Stop.TheVariants.{InputEnded, ReadingFailed, WritingFailed, InputLeftOver}
use Rattle.cipher_io.specs.Passing.{going_on, writing_failed}

abbrev pub stop_number : Stop → ℕ
stop_number InputEnded = 1
stop_number ReadingFailed = 2
stop_number WritingFailed = writing_failed
stop_number InputLeftOver = 4

-- what stopped a call, if anything did
abbrev pub stop_of : {A : Type 0} → Result A Stop → ℕ
stop_of (Ok x) = going_on
stop_of (Err stop) = stop_number stop

-- how many bytes a read brought: none where it stopped
abbrev pub count_of : Result ℕ Stop → ℕ
count_of (Ok n) = n
count_of (Err stop) = 0

-- what the program says of it on standard error, with the line feed: nothing where the input ended
abbrev pub message_of : Stop → Option (List ℕ)
message_of InputEnded = None
message_of ReadingFailed = Some (ascii "cipher: reading failed, the output may not be whole\n")
message_of WritingFailed = Some (ascii "cipher: writing failed, the output is not whole\n")
message_of InputLeftOver = Some (ascii "cipher: stopped after 16777216 bytes of data, there was more\n")
