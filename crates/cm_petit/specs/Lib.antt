pub mod Routers
