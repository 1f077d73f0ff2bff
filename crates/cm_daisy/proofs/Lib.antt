mod Shifting
