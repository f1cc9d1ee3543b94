-- A board's memory, of which a guest's part is changed.
pub use Rattle.vm_shadow.specs.Area.{OnlyBetween}
