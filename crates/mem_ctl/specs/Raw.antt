-- What the calls that touch off-chip bytes alone leave.
use Rattle.std.specs.Prelude.{ℕ, ◌+◌, ◌-◌, ◌*◌, List}
use Rattle.byteorder.specs.Endian.{little_bytes}
use Rattle.mem_ctl.specs.Data.{CtlData, with_off_chip}
use Rattle.pl_base.specs.Bytes.{with_bytes, zero_page}

-- a word is written into a page
abbrev pub raw_written : CtlData → ℕ → ℕ → ℕ → CtlData
raw_written x page offset word = with_off_chip x (with_bytes x.off_chip (4096 * page + offset) (little_bytes 8 word))

-- all bytes of a page are zero
abbrev pub raw_zeroed : CtlData → ℕ → CtlData
raw_zeroed x page = with_off_chip x (with_bytes x.off_chip (4096 * page) zero_page)

-- bytes are written from an address on
abbrev pub attacked : CtlData → ℕ → List ℕ → CtlData
attacked x pa bytes = with_off_chip x (with_bytes x.off_chip (pa - 0x80000000) bytes)
