use Rattle.std.proofs.Common.{◌≡◌, ◌∙◌, ap}
use Rattle.std.proofs.lemmas.List.{length-map}
use Rattle.tm_text.specs.Objects.{owns_of}
use Rattle.tm_text.proofs.OwnNumbers.{owns_are, owns_count}
use Rattle.tm_text.proofs.exercises.Exercise.new.Goals as goal

pub invariant_of-result : goal.invariant_of-result
invariant_of-result c =
    let ds = c.args.objects.items in
    let owns : c.in_ok-owns.owns.items ≡ owns_of 0 ds = c.in_ok-owns.ensures ∙ ap (owns_of 0) c.as_slice.ensures.value in
    let count = length-map c.args.programs.items (λ p. p.items) in
    record {
      well_formed = c.requires.well_formed;
      owns = λ t below. owns_are ds c.in_ok-owns.owns.items _ owns c.requires.well_formed.numbered t (rw count below);
      own_count = owns_count ds c.in_ok-owns.owns.items _ owns c.requires.well_formed.numbered ∙ count;
    }
