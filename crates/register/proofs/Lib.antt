mod Performing
