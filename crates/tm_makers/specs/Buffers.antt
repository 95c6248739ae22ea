-- The bounded buffer of producers and consumers.
use Rattle.std.specs.Prelude.{ℕ, ◌*◌, ◌/◌, ◌%◌, ◌==◌, Bool, ◌&&◌, nat_le, List, [], ◌∷◌, ◌++◌, codes, flat_map}
use Rattle.std.specs.List.{range_with_len}
use Rattle.tm_text.specs.declared.values.Value.TheVariants as value
use Rattle.tm_text.specs.SpelledLines.{SpelledLine}
use Rattle.tm_makers.specs.declared.plans.Guard.{Guard}
use Rattle.tm_makers.specs.declared.plans.Guard.TheVariants as guard
use Rattle.tm_makers.specs.LineForms.{add_one, enter, if_equal, is_within, leave, lock, monitor, mutex, numbered, p, read, repeats, sem, signal, take_one, thread, unlock, v, var, wait, while_equal}

-- 1 to 30 producers and consumers, 1 to 1,000 places, and 1 to 100 items of each producer, which the consumers
-- share out evenly, at most 100 for each.
abbrev pub are_buffer_sizes : ℕ → ℕ → ℕ → ℕ → Bool
are_buffer_sizes producers consumers places items =
    is_within 1 30 producers && is_within 1 30 consumers && is_within 1 1000 places && is_within 1 100 items
    && producers * items % consumers == 0 && nat_le (producers * items / consumers) 100

abbrev pub empty : List ℕ
empty = codes "empty"

abbrev pub full : List ℕ
full = codes "full"

abbrev pub m : List ℕ
m = codes "m"

abbrev pub b : List ℕ
b = codes "b"

abbrev pub count : List ℕ
count = codes "count"

abbrev pub buffer_objects : ℕ → Guard → List SpelledLine
buffer_objects places guard.Semaphores = sem empty places ∷ sem full 0 ∷ mutex m ∷ var count 0 ∷ []
buffer_objects places guard.Hoare = monitor b value.Hoare 2 ∷ var count 0 ∷ []
buffer_objects places guard.Mesa = monitor b value.Mesa 2 ∷ var count 0 ∷ []

-- Putting an item into the buffer. Condition 0 is that a place is free, condition 1 that an item is there.
abbrev pub puts : ℕ → Guard → List SpelledLine
puts places guard.Semaphores = p empty ∷ lock m ∷ add_one count ∷ unlock m ∷ v full ∷ []
puts places guard.Hoare =
    enter b ∷ read count ∷ if_equal places (wait b 0 ∷ []) ++ add_one count ∷ signal b 1 ∷ leave b ∷ []
puts places guard.Mesa =
    enter b ∷ read count ∷ while_equal places (wait b 0 ∷ read count ∷ [])
    ++ add_one count ∷ signal b 1 ∷ leave b ∷ []

-- Taking an item out of the buffer.
abbrev pub takes : Guard → List SpelledLine
takes guard.Semaphores = p full ∷ lock m ∷ take_one count ∷ unlock m ∷ v empty ∷ []
takes guard.Hoare =
    enter b ∷ read count ∷ if_equal 0 (wait b 1 ∷ []) ++ take_one count ∷ signal b 0 ∷ leave b ∷ []
takes guard.Mesa =
    enter b ∷ read count ∷ while_equal 0 (wait b 1 ∷ read count ∷ [])
    ++ take_one count ∷ signal b 0 ∷ leave b ∷ []

abbrev pub producer : ℕ → ℕ → Guard → ℕ → List SpelledLine
producer places items g i = thread (numbered (codes "P") i) (repeats items (puts places g))

-- A consumer takes its share of all items.
abbrev pub consumer : ℕ → Guard → ℕ → List SpelledLine
consumer share g i = thread (numbered (codes "C") i) (repeats share (takes g))

abbrev pub lines_of_buffer : ℕ → ℕ → ℕ → ℕ → Guard → List SpelledLine
lines_of_buffer producers consumers places items g =
    buffer_objects places g ++ flat_map (producer places items g) (range_with_len 1 producers)
    ++ flat_map (consumer (producers * items / consumers) g) (range_with_len 1 consumers)
