-- Document 01, "Points on both sides": the points that are proved, as a single table under one claim, of the rules themselves; those of
-- document 02's requests stand with them.
-- Assumes nothing.
use Rattle.std.specs.Prelude.{◌≡◌, Bool, true, false, List, ℕ, ◌+◌, ◌-◌}
use Rattle.space.specs.declared.Width.{Width}
use Rattle.space.specs.declared.Width.TheVariants.{Byte, Word}
use Rattle.unit_funnel.specs.Funnel.{high_first, joined}
use Rattle.word_address.specs.declared.Set.{Set}
use Rattle.word_address.specs.declared.Address.{Address}
use Rattle.word_address.specs.Address.{stepped_on}
use Rattle.word_reload.specs.declared.Stage.TheVariants.{Reload}
use Rattle.unit_accesses.specs.Accesses.{step_after}
use Rattle.unit.specs.declared.Work.{Work}
use Rattle.unit.specs.Unit.{moved_of}
use Rattle.port.specs.declared.Which.TheVariants.{One}
use Rattle.channel.specs.declared.Channel.{Channel}
use Rattle.chain_stride.specs.Fetches.{fetches_of}
use Rattle.chain_stride.specs.Length.{word_at, WholeChain}
use Rattle.channel.specs.Set.{◌⟨interrupt≔◌⟩, ◌⟨cie≔◌⟩}
use Rattle.channel.specs.Ending.{with_ip}
use Rattle.step.specs.declared.Controller.{Controller}
use Rattle.step.specs.Controller.{at, with}
use Rattle.call_command.specs.Commands.{takes, is_busy}
use Rattle.call_write.specs.Writing.{write_of}

-- a chain with the reload word r, where so many may be fetched, fetches n words and is complete
abbrev pub TakesWords : ℕ → ℕ → Type 0
TakesWords r n = (m : List ℕ) (c : Channel) (k : ℕ) → word_at m c ≡ r → WholeChain n (fetches_of m (n - 1 + k) 0 Reload c)

-- the count and TC that a unit leaves of a count
abbrev pub counted : ℕ → Work → Work
counted n w = record { set = record { a = w.set.a; b = w.set.b; count = n }; mode = w.mode; pattern = w.pattern; mask = w.mask; kept = w.kept }

-- an operation with this match control, pattern and mask
abbrev pub doing : ℕ → ℕ → ℕ → ℕ → Set → Work
doing operation control pattern mask s = record {
  set = s;
  mode = record { high = control; low = operation };
  pattern = pattern;
  mask = mask;
  kept = record { mch = false; mcl = false; met = false };
}

-- a word search
abbrev pub searching : ℕ → ℕ → ℕ → Set → Work
searching = doing 0xE

-- stop on match, pattern 1200h, mask 00FFh
abbrev pub sought : Set → Work
sought s = searching 2 0x1200 0x00FF s

abbrev pub five : Set
five = record { a = record { upper = 0x0040; lower = 0x0200 }; b = record { upper = 0; lower = 0 }; count = 5 }

-- the step after an access changes bits 23-16
abbrev pub changes_upper_at : Width → Address → Bool
changes_upper_at w a = (step_after (record { width = w; address = a })).upper

-- both addresses at 00FFFEh of memory, up
abbrev pub at_the_end : Set
at_the_end = record { a = record { upper = 0x0040; lower = 0xFFFE }; b = record { upper = 0x0040; lower = 0xFFFE }; count = 9 }

-- how many of the steps of a unit with this operation change bits 23-16 from there
abbrev pub changes_by : ℕ → ℕ
changes_by operation = (moved_of (doing operation 0 0 0 at_the_end) 0).upper

-- channel 1 with CIE and IP set, save loaded
abbrev pub interrupting : Controller → Controller
interrupting u = with One (with_ip One (at One u ⟨interrupt≔ (at One u).interrupt ⟨cie≔ true ⟩ ⟩)) u

pub record Points : Type 0 where
  -- Reload 0282h takes 6 words; 03FFh 18; FC00h 1.
  pub p1 : TakesWords 0x0282 6
  pub p2 : TakesWords 0x03FF 18
  pub p3 : TakesWords 0xFC00 1
  -- Memory byte FFFFFFh up gives 000000h; memory word 000000h down gives FFFFFEh; I/O byte 000010h up gives 000012h.
  pub p4 : stepped_on Byte (record { upper = 0xFF40; lower = 0xFFFF }) ≡ record { upper = 0x0040; lower = 0x0000 }
  pub p5 : stepped_on Word (record { upper = 0x0048; lower = 0x0000 }) ≡ record { upper = 0xFF48; lower = 0xFFFE }
  pub p6 : stepped_on Byte (record { upper = 0x0000; lower = 0x0010 }) ≡ record { upper = 0x0000; lower = 0x0012 }
  -- Of these the first two change bits 23-16, and so does a memory byte 00FFFFh up; held there it does not (document 02, E5).
  pub e5 : (changes_upper_at Byte (record { upper = 0xFF40; lower = 0xFFFF }) ≡ true)
      × (changes_upper_at Word (record { upper = 0x0048; lower = 0x0000 }) ≡ true)
      × (changes_upper_at Byte (record { upper = 0x0000; lower = 0x0010 }) ≡ false)
      × (changes_upper_at Byte (record { upper = 0x0040; lower = 0xFFFF }) ≡ true)
      × (changes_upper_at Byte (record { upper = 0x0050; lower = 0xFFFF }) ≡ false)
  -- A word transfer from 00FFFEh up on both sides changes them twice, a word search once, bytes funnelled to a word twice (E5).
  pub e5_units : (changes_by 0x0 ≡ 2) × (changes_by 0xE ≡ 1) × (changes_by 0x8 ≡ 2)
  -- Count 0000 becomes FFFFh without TC; count 1 becomes 0 with TC: by any unit.
  pub p7 : (w : Work) (datum : ℕ) → ((moved_of (counted 0 w) datum).set.count ≡ 0xFFFF) × ((moved_of (counted 0 w) datum).tc ≡ false)
  pub p8 : (w : Work) (datum : ℕ) → ((moved_of (counted 1 w) datum).set.count ≡ 0) × ((moved_of (counted 1 w) datum).tc ≡ true)
  -- Bytes 12h, 34h funnel to 1234h with B up, to 3412h with B down.
  pub p9 : joined (high_first 0x0000) 0x12 0x34 ≡ 0x1234
  pub p10 : joined (high_first 0x0008) 0x12 0x34 ≡ 0x3412
  -- Pattern 1200h, mask 00FFh, stop on match, words 1300h, 12AAh: first no, second MC; count 5 is left at 3.
  pub p11 : ((moved_of (sought five) 0x1300).compared.met ≡ false)
      × ((moved_of (sought (moved_of (sought five) 0x1300).set) 0x12AA).compared.met ≡ true)
      × ((moved_of (sought (moved_of (sought five) 0x1300).set) 0x12AA).set.count ≡ 3)
      × ((moved_of (sought (moved_of (sought five) 0x1300).set) 0x12AA).tc ≡ false)
  -- Match control 3, pattern 1234h, mask 0, word 5634h: MCL, not MCH, MC (document 02, E2).
  pub e2 : (moved_of (searching 3 0x1234 0x0000 five) 0x5634).compared ≡ record { mch = false; mcl = true; met = true }
  -- Command 36h at 2E sets CIE and IP of channel 1; 20h changes nothing.
  pub p12 : (u : Controller) → u.pointer ≡ 0x2E → is_busy u ≡ false → (write_of 0x36 u ≡ takes (interrupting u)) × (write_of 0x20 u ≡ takes u)
