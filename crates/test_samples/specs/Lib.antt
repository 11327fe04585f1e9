pub mod Patched
