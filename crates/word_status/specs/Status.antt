-- Document 01, "Registers": the status and the interrupt save words. Assumes nothing.
use Rattle.std.specs.Prelude.{ℕ, ◌+◌, Bool}
use Rattle.facts.specs.Bits.{bit_if}
use Rattle.word_status.specs.declared.Flags.{Flags}

-- 15 CIE, 13 IP, 12 CA, 11 NAC, 10 WFB, 9 SIP, 6 hardware mask, 5 request line, 4 MCH, 3 MCL, 2 MC, 1 EOP, 0 TC.
abbrev pub status_word : Flags → ℕ
status_word s =
    bit_if s.cie 0x8000
    + bit_if s.ip 0x2000
    + bit_if s.ca 0x1000
    + bit_if s.nac 0x800
    + bit_if s.wfb 0x400
    + bit_if s.sip 0x200
    + bit_if s.masked 0x40
    + bit_if s.line 0x20
    + bit_if s.mch 0x10
    + bit_if s.mcl 8
    + bit_if s.mc 4
    + bit_if s.eop 2
    + bit_if s.tc 1

-- Bits 7-0 vector; 15 channel (0 for 1, 1 for 2), 14 request line, 13 MCH, 12 MCL, 11 CA, 10 MC, 9 EOP, 8 TC.
abbrev pub save_word : Bool → ℕ → Flags → ℕ
save_word second vector s =
    bit_if second 0x8000
    + bit_if s.line 0x4000
    + bit_if s.mch 0x2000
    + bit_if s.mcl 0x1000
    + bit_if s.ca 0x800
    + bit_if s.mc 0x400
    + bit_if s.eop 0x200
    + bit_if s.tc 0x100
    + vector
