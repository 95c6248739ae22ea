pub mod WaitQueues
pub mod StoredWaitQueues
pub mod ValuedQueues
pub mod StoredValuedQueues
pub mod WaitStates
pub mod StoredWaitStates
