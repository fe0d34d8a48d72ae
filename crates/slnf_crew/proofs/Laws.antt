-- What crates above cite: the sizes of lanes, and lists that grow by one.
pub use Rattle.slnf_crew.proofs.Hired.{lane_size}
pub use Rattle.slnf_crew.proofs.Pushes.{pushed}
