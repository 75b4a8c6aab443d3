mod Changes
mod Counting
mod Reading
mod Taking
mod Updates
mod Views
