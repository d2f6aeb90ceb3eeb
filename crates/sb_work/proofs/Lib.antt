pub use Rattle.sb_base.proofs as base
pub use Rattle.sb_aggregate.proofs as aggregate
pub use Rattle.sb_join.proofs as join
