-- What contracts see of a buffer: the module of `callbacks`.
pub use Rattle.callbacks.specs.Buffers.{BufferView, SameRecords, refusal_of}
