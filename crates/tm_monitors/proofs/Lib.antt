pub mod MonitorQueuesLemmas
mod HoareLawsLemmas
mod MesaLawsLemmas
