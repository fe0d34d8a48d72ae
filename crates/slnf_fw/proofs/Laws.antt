-- The laws of the firewall that crates above cite.
pub use Rattle.slnf_fw.proofs.Bounds.{fw_bounded}
pub use Rattle.slnf_fw.proofs.Failures.{fw_failures}
pub use Rattle.slnf_fw.proofs.Keys.{tracked_read}
pub use Rattle.slnf_fw.proofs.Refines.{fw_keeps, fw_explained}
pub use Rattle.slnf_fw.proofs.Starts.{fw_first}
