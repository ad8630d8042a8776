mod FirstNames
