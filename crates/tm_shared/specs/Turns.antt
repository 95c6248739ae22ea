-- What a call does between taking the turn and giving it back.
use Rattle.std.specs.Prelude.{◌≡◌, false, List, [], ◌∷◌, ◌++◌, Option, Some, None, IfSome, IfNone}
use Rattle.tm_base.specs.declared.operations.Op.{Op}
use Rattle.tm_base.specs.declared.events.Entry.{Entry}
use Rattle.tm_base.specs.Histories.{Label}
use Rattle.tm_base.specs.Tickets.{TicketView}
use Rattle.tm_turn.specs.Passes.{PassView}
use Rattle.tm_shared.specs.Calls.{IsLegal, IsMade}

-- The events, with one more where one was made.
abbrev pub with_made : List Entry → Option Entry → List Entry
with_made es None = es
with_made es (Some e) = es ++ e ∷ []

-- The pass, which held the turn and had seen the whole history, added what was made to it, and gave the turn
-- back. The history is legal, and where nothing was made the ticket stays.
pub record GaveBack (l : Label) (old : PassView) (before : TicketView) (o : Op) (made : Option Entry) (new : PassView) (later : TicketView) : Type 0 where
  pub pass : new ≡ record old { seen = with_made old.seen made; holds = false }
  pub legal : IsLegal l new.seen
  pub added : IfSome made (λ e. IsMade l before o e old.seen new.seen later)
  pub same_ticket : IfNone made (later ≡ before)
