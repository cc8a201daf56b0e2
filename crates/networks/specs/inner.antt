pub mod Steps
pub mod Candidates
pub mod MadeNetwork
pub mod KeptNetworks
pub mod Traces
