pub mod inner
pub use Rattle.graphs.specs.Graph
pub use Rattle.lending.specs.declared.apart.Flow
pub use Rattle.network_laws.specs.State
pub use Rattle.networks.specs.Networks
pub use Rattle.networks.specs.Turns
