mod Patches
