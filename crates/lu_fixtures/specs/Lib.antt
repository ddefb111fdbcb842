pub mod Fixtures
