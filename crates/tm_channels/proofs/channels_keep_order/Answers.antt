-- Each event keeps the balance of what is sent, given and on its way.
use Rattle.tm_channels.proofs.ChannelHistories.{history-delivers}
use Rattle.tm_channels.proofs.channels_keep_order.Goals as goal

pub returns : goal.returns
returns c = λ l es p is run. history-delivers l es p is run
