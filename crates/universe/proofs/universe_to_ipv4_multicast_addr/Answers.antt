use Rattle.std.proofs.Common.{◌≡◌, ℕ, ◌/◌, ◌%◌, [], Ok, Err, Result, sym, refl, ◌∙◌, arith}
use Rattle.refusal.specs.declared.Refusal.{Refusal}
use Rattle.refusal.specs.Check.{reading, checked_of}
use Rattle.refusal.proofs.Laws.{after_check, check_last, handed_on, gone_on}
use Rattle.universe.specs.Universe.{universe_checks, multicast_of}
use Rattle.universe.specs.declared.Ipv4Address.{Ipv4Address}
use Rattle.universe.proofs.universe_to_ipv4_multicast_addr.Goals as goal

abbrev address : ℕ → Result Ipv4Address Refusal
address u = Ok (record { highest = 239; second = 255; third = u / 0x100; lowest = u % 0x100; port = 5568 })

by-range : (u : ℕ) → multicast_of u ≡ after_check Err (address u) (checked_of (universe_checks u))
unfolding multicast_of reading
by-range u = check_last Err [] (universe_checks u) (address u)

pub returns-in_err-is_universe_in_range : goal.returns-in_err-is_universe_in_range
returns-in_err-is_universe_in_range c = handed_on (λ t. address _) c.in_err-is_universe_in_range.ensures c.from_residual.ensures.1 ∙ sym (by-range _)

pub returns : goal.returns
returns c =
    let high : c.args.universe / 256 % 256 ≡ c.args.universe / 256 = omega (arith, c.ranges.universe.fits) in
    gone_on (λ t. address _) c.in_ok-is_universe_in_range.ensures (rw (c.to_be_bytes.ensures, high) refl) ∙ sym (by-range _)
