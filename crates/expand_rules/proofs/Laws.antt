pub mod Defeat
