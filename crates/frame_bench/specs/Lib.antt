-- What the contracts of `frame_bench` cite.
pub mod Flat
