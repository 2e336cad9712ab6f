pub mod Scene
