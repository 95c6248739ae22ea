pub mod WaitQueueLemmas
pub mod ValuedQueuesLemmas
