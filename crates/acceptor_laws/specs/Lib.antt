-- The laws of `acceptor` on the frames that it sends and the states that it leaves.
pub mod LineLaws
