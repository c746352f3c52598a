-- When a script that sends, or that closes a block, stops.
use Rattle.std.proofs.Common.{◌≡◌, ℕ, ◌+◌, ◌-◌, Bool, true, false, ◌⊎◌, List, [], get_or, take, drop, set, sym, subst, Some, None, Option, refl, inl, inr}
use Rattle.values.specs.declared.kinds.Value.{Value}
use Rattle.values.specs.declared.kinds.Value.TheVariants.{Nil, True, False, Block}
use Rattle.hosts.specs.Meaning.{Meaning, Sent, message}
use Rattle.parcels.specs.declared.reading.Instruction.{Instruction}
use Rattle.semantics.specs.Scripts.{Script, act, write_cell, sending, sent_then, answered, branching, closed_over, continue_at, CodeContext, must_be_boolean, Outcome, continues, stops}
use Rattle.semantics.specs.Execution.{Exec}
use Rattle.semantics.specs.declared.states.Stop.TheVariants.{NotUnderstood, NoBlock}
use Rattle.semantics.proofs.Executing.{sent_is}

-- it continues
abbrev pub Continues : Outcome → Type 0
Continues o = (r : ℕ) × (k : ℕ) × (o ≡ continues r k)

module _ (literals : List ℕ) {S : Type 0} (means : S → Meaning) (may : S → Sent → Value → S → Type 0) where
  -- what sending a message came to: on with an answer, or a stop
  abbrev pub Told : Sent → S → Outcome → Type 0 → Type 0
  Told m s o on =
      (((means s).understands m ≡ true) × on)
      ⊎ (((means s).understands m ≡ false) × (o ≡ stops (NotUnderstood m.selector)))

  sent_told : (m : Sent) (k : Value → Script) (on : Type 0)
      (f : List Value) (s : S) (o : Outcome) (f' : List Value) (s' : S)
      → ((v : Value) (t : S) → may s m v t → Exec literals means may (k v) f t o f' s' → on)
      → Exec literals means may (sent_then m k) f s o f' s' → Told m s o on
  sent_told m k on f s o f' s' more x = by x.0 x.3 (sent_is literals means may s x.1 m x.0 x.2)
    where
      z_may : (v : Value)
          → (w : Value) × (Some v ≡ Some w) × may s m w x.1 × ((means s).understands m ≡ true) → may s m v x.1
      z_may v z = let same : z.0 ≡ v = cc in subst (λ (w : Value). may s m w x.1) same z.2

      by : (r : Option Value) → Exec literals means may (answered m k r) f x.1 o f' s'
          → (((v : Value) × (r ≡ Some v) × may s m v x.1 × ((means s).understands m ≡ true))
          ⊎ ((r ≡ None) × (means x.1 ≡ means s) × ((means s).understands m ≡ false)))
          → Told m s o on
      by (Some v) y (inl z) = inl (z.3, more v x.1 (z_may v z) y)
      by (Some v) y (inr z) = let u = z.0 in absurd cc
      by None y (inl z) = let u = z.1 in absurd cc
      by None y (inr z) = inr (z.2, y.0)

  module _ (c : CodeContext) (i : Instruction) (next h : ℕ)
      (f : List Value) (s : S) (o : Outcome) (f' : List Value) (s' : S) where
    -- it continues, and the host is what came of a message with an answer
    abbrev pub Delivered : Sent → (Value → List Value) → Type 0
    Delivered m left = Continues o × ((v : Value) × may s m v s' × (f' ≡ left v))

    pub send_told : (super : Bool) (selector n : ℕ)
        → Exec literals means may (sending c i next h super selector n) f s o f' s'
        → (λ (m : Sent). Told m s o (Delivered m (λ v. set f (c.base + (h - n - 1)) v)))
        (message super selector (get_or f (c.base + (h - n - 1)) Nil) (take n (drop (c.base + (h - n)) f)))
    send_told super selector n x =
        let m = message super selector (get_or f (c.base + (h - n - 1)) Nil) (take n (drop (c.base + (h - n)) f)) in
        sent_told m (λ v. act (write_cell (c.base + (h - n - 1)) v) (λ _. continue_at next (h - n))) _
        f s o f' s' (λ v t w y. ((next, h - n, y.0), (v, subst (λ (u : S). may s m v u) (sym y.2) w, y.1))) x

    -- a conditional jump stops only at what is neither true nor false, and else leaves the host
    pub branch_told : (when : Bool) (p : ℕ) (v : Value)
        → Exec literals means may (branching c i next h when p v) f s o f' s'
        → (((v ≡ True) ⊎ (v ≡ False)) × Continues o × (f' ≡ f) × (s' ≡ s))
        ⊎ ((v ≡ True → ⊥) × (v ≡ False → ⊥)
        × (λ (m : Sent). Told m s o (Delivered m (λ _. f))) (message false must_be_boolean v []))
    branch_told when p True x = inl (inl refl, (_, _, x.0), x.1, x.2)
    branch_told when p False x = inl (inr refl, (_, _, x.0), x.1, x.2)
    branch_told when p v x =
        inr (
          (λ e. absurd cc),
          (λ e. absurd cc),
          sent_told _ (λ _. continue_at p (h - 1)) _ f s o f' s'
              (λ w t y z. ((p, h - 1, z.0), (w, subst (λ (u : S). may s (message false must_be_boolean v []) w u) (sym z.2) y, z.1))) x,
        )

    -- a closure stops only where there is no block
    pub close_told : (v : Value) (t : ℕ)
        → Exec literals means may (closed_over v (λ w. act (write_cell t w) (λ _. continue_at next h))) f s o f' s'
        → ((n : ℕ) × (v ≡ Block n) × Continues o)
        ⊎ (((n : ℕ) → v ≡ Block n → ⊥) × (o ≡ stops NoBlock))
    close_told (Block n) t x = inl (n, refl, (next, h, x.0))
    close_told v t x = inr ((λ n e. absurd cc), x.0)
