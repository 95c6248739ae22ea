-- What the words after `make` spell: the plan of an exercise.
use Rattle.std.specs.Prelude.{◌≡◌, ℕ, true, List, [], ◌∷◌, ◌++◌, codes}
use Rattle.tm_makers.specs.declared.plans.Guard.{Guard}
use Rattle.tm_makers.specs.declared.plans.Guard.TheVariants.{Hoare, Mesa, Semaphores}
use Rattle.tm_makers.specs.declared.plans.Plan.{Plan}
use Rattle.tm_makers.specs.declared.plans.Plan.TheVariants.{Buffer, Coaster, Philosophers, Readers, Ring}
use Rattle.tm_makers.specs.declared.plans.Way.{Way}
use Rattle.tm_makers.specs.declared.plans.Way.TheVariants.{Asymmetric, Chairs, Naive}
use Rattle.tm_makers.specs.Plans.{is_in_range}
use Rattle.tm_words.specs.Numbers.{IsNumber}

-- The word of a way.
abbrev pub way_word : Way → List ℕ
way_word Naive = codes "naive"
way_word Asymmetric = codes "asymmetric"
way_word Chairs = codes "chairs"

-- The word of a guard.
abbrev pub guard_word : Guard → List ℕ
guard_word Semaphores = codes "semaphores"
guard_word Hoare = codes "hoare"
guard_word Mesa = codes "mesa"

-- How a plan is spelled: the word of its kind, its sizes in order, and what comes last: the word of
-- its way or guard, or nothing.
pub record PlanSpelling : Type 0 where
  pub kind : List ℕ
  pub sizes : List ℕ
  pub last : List (List ℕ)

abbrev pub spelling_of : Plan → PlanSpelling
spelling_of (Philosophers n rounds way) = record { kind = codes "philosophers"; sizes = n ∷ rounds ∷ []; last = way_word way ∷ [] }
spelling_of (Buffer producers consumers places items guard) =
    record { kind = codes "buffer"; sizes = producers ∷ consumers ∷ places ∷ items ∷ []; last = guard_word guard ∷ [] }
spelling_of (Readers readers writers rounds) = record { kind = codes "readers"; sizes = readers ∷ writers ∷ rounds ∷ []; last = [] }
spelling_of (Coaster seats rides) = record { kind = codes "coaster"; sizes = seats ∷ rides ∷ []; last = [] }
spelling_of (Ring n rounds) = record { kind = codes "ring"; sizes = n ∷ rounds ∷ []; last = [] }

-- The words are the digits of these numbers, a word for each.
abbrev pub AreNumbers : List (List ℕ) → List ℕ → Type 0
AreNumbers [] [] = Unit {0}
AreNumbers [] (n ∷ ns) = ⊥
AreNumbers (word ∷ words) [] = ⊥
AreNumbers (word ∷ words) (n ∷ ns) = IsNumber word n × AreNumbers words ns

-- A plan's words where these are those of its sizes.
abbrev pub words_of_plan : Plan → List (List ℕ) → List (List ℕ)
words_of_plan plan numbers = (spelling_of plan).kind ∷ (numbers ++ (spelling_of plan).last)

-- The words are those of a plan, whatever its sizes.
pub record Describes (words : List (List ℕ)) (plan : Plan) : Type 0 where
  pub numbers : List (List ℕ)
  pub written : words ≡ words_of_plan plan numbers
  pub values : AreNumbers numbers (spelling_of plan).sizes

-- The words are those of a plan with all sizes in their ranges.
pub record SpellsPlan (words : List (List ℕ)) (plan : Plan) : Type 0 where
  pub described : Describes words plan
  pub in_range : is_in_range plan ≡ true

-- The words spell no plan.
abbrev pub SpellsNoPlan : List (List ℕ) → Type 0
SpellsNoPlan words = (plan : Plan) → ¬ SpellsPlan words plan
