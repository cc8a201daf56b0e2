-- How the numbers that the two ends keep change.
use Rattle.std.proofs.Common.{◌≡◌, ℕ, ◌+◌, ◌-◌, ◌≤◌, ◌<◌, arith}
use Rattle.bounded_pipe.specs.inner.Counts.{most, TakesOff, Counts, Tells}

-- nothing was taken off
pub takes_off_nothing : (count excess : ℕ) → TakesOff 0 count excess count excess
takes_off_nothing count excess = record {
  less = omega arith;
  more = omega arith;
  covers =
      omega arith;
  exact = λ h. omega arith;
}

-- one number after another
pub takes_off_both : (m n c e c' e' c'' e'' : ℕ) → TakesOff m c e c' e' → TakesOff n c' e' c'' e''
    → TakesOff (m + n) c e c'' e''
takes_off_both m n c e c' e' c'' e'' h k = record {
  less = omega (arith, h.less, k.less);
  more = omega (arith, h.more, k.more);
  covers = omega (arith, h.covers, k.covers);
  exact = λ small. let x = k.exact small in let y = h.exact (omega (arith, k.more, small)) in
      omega (arith, x, y);
}

-- The two ends after `beside`: nothing was lost of what was taken, and the count is that of what is
-- in between.
pub settled_untold : (put taken limit count heard excess told untold number : ℕ)
    → Counts put limit count heard excess → Tells taken told untold → taken ≤ put
    → heard + number ≡ told →
    told + untold ≡ taken
settled_untold put taken limit count heard excess told untold number c t order all =
    t.exact (omega (arith, c.within, c.small, c.covers, t.least, order, all))

pub settled_count : (put taken limit count heard excess told untold number left over : ℕ)
    → Counts put limit count heard excess → Tells taken told untold → taken ≤ put
    → heard + number ≡ told →
    TakesOff (number + untold) count excess left over → (left - over) + taken ≡ put
settled_count put taken limit count heard excess told untold number left over c t order all off =
    let e = settled_untold put taken limit count heard excess told untold number c t order all in
    let low : over ≤ left = omega (arith, c.covers, off.covers, order, all, e) in
    let small : over < most = omega (arith, low, off.less, c.within, c.small) in
    let x = off.exact small in
    let y = c.exact (omega (arith, off.more, small)) in
    omega (arith, low, x, y, all, e)

-- an item was put after a number was received
pub counts_after : (put limit count heard excess number count' excess' size put' heard' limit' : ℕ)
    → Counts put limit count heard excess → TakesOff number count excess count' excess' →
    heard' ≡ heard + number → limit' ≡ limit → put' ≡ put + size → count' + size ≤ limit'
    → Counts put' limit' (count' + size) heard' excess'
counts_after put limit count heard excess number count' excess' size put' heard' limit' c t hears
    same puts room = record {
      within = room;
      small = omega (arith, c.small, same);
      covers = omega (arith, c.covers, t.covers, hears, puts);
      exact = λ low. let x = t.exact low in let y = c.exact (omega (arith, t.more, low)) in
          omega (arith, x, y, hears, puts);
    }

-- What holds of the numbers of two ends after `beside`.
pub record Level (put taken limit count heard excess told untold : ℕ) : Type 0 where
  pub counts : Counts put limit count heard excess
  pub tells : Tells taken told untold
  pub level : count + taken ≡ put
  pub all : told ≡ taken

pub settled : (put taken limit count heard excess told untold number left over put' taken' limit'
    count' heard' excess' told' untold' : ℕ) → Counts put limit count heard excess
    → Tells taken told untold →
    heard + number ≡ told → TakesOff (number + untold) count excess left over → count' ≡ left - over
    → excess' ≡ 0 → told' ≡ told + untold → heard' ≡ told' → untold' ≡ 0 →
    limit' ≡ limit → put' ≡ put → taken' ≡ taken → taken ≤ put
    → Level put' taken' limit' count' heard' excess' told' untold'
settled put taken limit count heard excess told untold number left over put' taken' limit' count'
    heard' excess' told' untold' c t hears off counted none tells hears' nothing same put_is
    taken_is order =
    let e = settled_untold put taken limit count heard excess told untold number c t order hears in
    let l = settled_count put taken limit count heard excess told untold number left over c t order
    hears off in
    record {
      counts = record {
        within = omega (arith, counted, off.less, c.within, same);
        small = omega (arith, c.small, same);
        covers = omega (arith, counted, none, tells, hears', put_is, e, l);
        exact = λ low. omega (arith, counted, none, tells, hears', put_is, e, l);
      };
      tells = record {
        least = omega (arith, tells, nothing, taken_is, e);
        exact =
            λ low. omega (arith, tells, nothing, taken_is, e);
      };
      level = omega (arith, counted, put_is, taken_is, l);
      all = omega (arith, tells, taken_is, e);
    }
