mod EdgeCases
