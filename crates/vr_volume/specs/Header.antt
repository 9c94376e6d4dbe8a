-- Block 0 of a volume: the words of vr_attach.
pub use Rattle.vr_attach.specs.Header.{mark, version, serial_of, header_bytes}
unfoldable pub use Rattle.vr_attach.specs.Header.{header_block}
