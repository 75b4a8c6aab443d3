mod Counted
mod Distinct
mod Joined
mod Occurrences
mod Parts
mod RowChanges
mod Spread
mod Ties
