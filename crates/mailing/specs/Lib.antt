pub mod EmptyPlaces
