-- What the feeder has fed and drained.
pub mod FedViews
pub mod FeedOfChanges
pub mod Drained
