mod EmptyPlaces
