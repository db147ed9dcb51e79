mod Fittings
