pub mod VectorBus
