-- Demand 2: each call's contract, as the check reads it, leaves one outcome: any two that it permits coincide in answer, state and
-- both spaces, refused calls included; so do those of each exported call in answer, words and both spaces. No call is excepted. Assumes nothing.
use mathlib.Core.Path.{◌≡◌, sym, ◌∙◌}
use Rattle.space.specs.Space.{spaces}
use Rattle.step.specs.Step.{outcome, ran_as}
use Rattle.host.specs.Calls.{returned, crossed}
use Rattle.call_reset.proofs.fresh.Reads as fresh
use Rattle.call_reset.proofs.reset.Reads as reset
use Rattle.call_pointer.proofs.write_pointer.Reads as pointer-write
use Rattle.call_pointer.proofs.read_pointer.Reads as pointer_read
use Rattle.call_write.proofs.write.Reads as register-write
use Rattle.call_read.proofs.read.Reads as register-read
use Rattle.call_line.proofs.line.Reads as line
use Rattle.call_acknowledge.proofs.acknowledge.Reads as acknowledge
use Rattle.step.proofs.Controller.step.Reads as step
use Rattle.call_run.proofs.run.Reads as run
use Rattle.standstill.proofs.why.Reads as why
use Rattle.host.proofs.einflyga_fresh.Reads as einflyga-fresh
use Rattle.host.proofs.einflyga_reset.Reads as einflyga-reset
use Rattle.host.proofs.einflyga_write_pointer.Reads as einflyga-write-pointer
use Rattle.host.proofs.einflyga_read_pointer.Reads as einflyga-read-pointer
use Rattle.host.proofs.einflyga_write.Reads as einflyga-write
use Rattle.host.proofs.einflyga_read.Reads as einflyga-read
use Rattle.host.proofs.einflyga_line.Reads as einflyga-line
use Rattle.host.proofs.einflyga_acknowledge.Reads as einflyga-acknowledge
use Rattle.host.proofs.einflyga_step.Reads as einflyga-step
use Rattle.host.proofs.einflyga_run.Reads as einflyga-run
use Rattle.host.proofs.einflyga_why.Reads as einflyga-why
use Rattle.promises_outcome.specs.Outcome.{Decided}

-- the argument, once: both are what the definition gives
both : {A : Type 0} {x y d : A} → x ≡ d → y ≡ d → x ≡ y
both p q = p ∙ sym q

-- ---- document 01's calls, and why: what they return is the answer and the state

pub fresh_decided : Decided fresh.Post (λ κs r x. r)
fresh_decided κs a r s x y p q = both p q

pub reset_decided : Decided reset.Post (λ κs r x. r)
reset_decided κs a r s x y p q = both p q

pub pointer_write_decided : Decided pointer-write.Post (λ κs r x. r)
pointer_write_decided κs a r s x y p q = both p q

pub pointer_read_decided : Decided pointer_read.Post (λ κs r x. r)
pointer_read_decided κs a r s x y p q = both p q

pub register_write_decided : Decided register-write.Post (λ κs r x. r)
register_write_decided κs a r s x y p q = both p q

pub register_read_decided : Decided register-read.Post (λ κs r x. r)
register_read_decided κs a r s x y p q = both p q

pub line_decided : Decided line.Post (λ κs r x. r)
line_decided κs a r s x y p q = both p q

pub acknowledge_decided : Decided acknowledge.Post (λ κs r x. r)
acknowledge_decided κs a r s x y p q = both p q

pub step_decided : Decided step.Post (λ κs r x. outcome r (spaces x.1.1.0.now x.1.1.1.0.now))
step_decided κs a r s x y p q = both p q

pub run_decided : Decided run.Post (λ κs r x. ran_as r (spaces x.1.1.0.now x.1.1.1.0.now))
run_decided κs a r s x y p q = both p q

pub why_decided : Decided why.Post (λ κs r x. r)
why_decided κs a r s x y p q = both p q

-- ---- the exported calls

pub einflyga_fresh_decided : Decided einflyga-fresh.Post (λ κs r x. x.0.now)
einflyga_fresh_decided κs a r s x y p q = both p q

pub einflyga_reset_decided : Decided einflyga-reset.Post (λ κs r x. x.0.now)
einflyga_reset_decided κs a r s x y p q = both p q

pub einflyga_write_pointer_decided : Decided einflyga-write-pointer.Post (λ κs r x. x.0.now)
einflyga_write_pointer_decided κs a r s x y p q = both p q

pub einflyga_read_pointer_decided : Decided einflyga-read-pointer.Post (λ κs r x. r)
einflyga_read_pointer_decided κs a r s x y p q = both p q

pub einflyga_write_decided : Decided einflyga-write.Post (λ κs r x. returned r x.0.now)
einflyga_write_decided κs a r s x y p q = both p q

pub einflyga_read_decided : Decided einflyga-read.Post (λ κs r x. r)
einflyga_read_decided κs a r s x y p q = both p q

pub einflyga_line_decided : Decided einflyga-line.Post (λ κs r x. returned r x.0.now)
einflyga_line_decided κs a r s x y p q = both p q

pub einflyga_acknowledge_decided : Decided einflyga-acknowledge.Post (λ κs r x. returned r x.0.now)
einflyga_acknowledge_decided κs a r s x y p q = both p q

pub einflyga_step_decided : Decided einflyga-step.Post (λ κs r x. crossed r x.0.now (spaces x.1.1.0.now x.1.1.1.0.now))
einflyga_step_decided κs a r s x y p q = both p q

pub einflyga_run_decided : Decided einflyga-run.Post (λ κs r x. crossed r x.0.now (spaces x.1.1.0.now x.1.1.1.0.now))
einflyga_run_decided κs a r s x y p q = both p q

pub einflyga_why_decided : Decided einflyga-why.Post (λ κs r x. r)
einflyga_why_decided κs a r s x y p q = both p q
