use Rattle.tm_event_lines.proofs.TraceableLemmas.{says_event}
use Rattle.tm_event_lines.proofs.laws.event_lines_say_events.Goals as goal

pub returns : goal.returns
returns c = says_event
