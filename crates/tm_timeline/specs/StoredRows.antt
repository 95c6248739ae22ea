-- How the text of a row is stored: at the end of its bytes.
use Rattle.std.specs.Prelude.{◌≡◌, ℕ, ◌≤◌, List, length, drop}
use Rattle.tm_timeline.specs.declared.row_texts.RowText.TheInside.{Inside}
use Rattle.tm_timeline.specs.declared.row_texts.TheConstants.{ROOM}

abbrev pub row_bytes : Inside → List ℕ
row_bytes t = drop t.start t.bytes

pub record IsStoredRow (t : Inside) : Type 0 where
  pub within : t.start ≤ ROOM
  pub wide : length t.bytes ≡ ROOM
