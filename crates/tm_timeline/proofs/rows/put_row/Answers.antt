use Rattle.std.proofs.Common.{◌≡◌, ℕ, List, ◌∷◌, ◌++◌, flat_map, codes, arith}
use Rattle.std.specs.Fmt.{decimal}
use Rattle.std.proofs.lemmas.List.{append_assoc}
use Rattle.tm_timeline.specs.Words.{bar_letter}
use Rattle.tm_timeline.specs.Rows.{event_text, line_end}
use Rattle.tm_timeline.proofs.rows.put_row.Goals as goal

pub put_bars-requires : goal.put_bars-requires
put_bars-requires c = omega (arith, c.requires.bars, c.threads.ensures.well_formed.few_threads)

pub put-requires-2 : goal.put-requires-2
put-requires-2 c = omega (arith, c.requires.bars, c.threads.ensures.well_formed.few_threads, c.requires.empty, c.put.ensures.len, c.put_bars.ensures.len)

pub put_event-requires-clause-room : goal.put_event-requires-clause-room
put_event-requires-clause-room c = omega (arith, c.requires.bars, c.threads.ensures.well_formed.few_threads, c.requires.empty, c.put.ensures.len, c.put_bars.ensures.len, c.put-2.ensures.len)

pub put_byte-requires : goal.put_byte-requires
put_byte-requires c = omega (arith, c.requires.bars, c.threads.ensures.well_formed.few_threads, c.requires.empty, c.put.ensures.len, c.put_bars.ensures.len, c.put-2.ensures.len, c.put_event.ensures.len)

pub put_number-requires : goal.put_number-requires
put_number-requires c =
    omega (arith, c.requires.bars, c.threads.ensures.well_formed.few_threads, c.requires.empty, c.put.ensures.len, c.put_bars.ensures.len, c.put-2.ensures.len, c.put_event.ensures.len, c.put_byte.ensures.len)

-- the parts of a row, in front of what is there
joined : (n event bars old : List ℕ) → n ++ 32 ∷ (event ++ (codes " [" ++ (bars ++ (codes "]\n" ++ old)))) ≡ n ++ codes " " ++ event ++ codes " [" ++ bars ++ codes "]" ++ line_end ++ old
joined n event bars old = simp append_assoc

pub returns : goal.returns
returns c =
    rw (c.put_number.ensures.text, c.put_byte.ensures.text, c.put_event.ensures.text, c.put-2.ensures.text, c.put_bars.ensures.text, c.put.ensures.text)
    (joined (decimal c.args.n) (event_text c.args.exercise.now c.args.entry.now) (flat_map bar_letter c.args.bars.now) c.args.text.now)
