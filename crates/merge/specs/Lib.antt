-- What the contracts of `merge` cite, and the laws of it.
pub mod Merge
pub mod Appending
pub mod Merged
pub mod MergeLaws
pub mod AppendingLaws
pub mod MergedLaws
pub mod CommonLaws
