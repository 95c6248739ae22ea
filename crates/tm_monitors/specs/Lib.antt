pub mod MonitorQueues
pub mod StoredMonitorQueues
pub mod StoredUrgentStacks
pub mod HoareMonitors
pub mod MesaMonitors
pub mod MonitorStates
pub mod HoareLaws
pub mod MesaLaws
