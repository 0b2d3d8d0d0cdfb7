-- What a turn of the program leaves, and its end.
use Rattle.std.proofs.Common.{◌≡◌, sym, ap, subst, ◌∙◌, List, [], ◌++◌, append-nil, true, false, true≢false, inl}
use Rattle.std.proofs.Common.{inr, ⊎_elim, ℕ, ◌+◌, ◌-◌, ◌*◌, ◌%◌, ◌^◌, ◌≤◌, ◌<◌, arith, ℤ, pos, negsuc, length, take}
use Rattle.std.proofs.Common.{length-take-le}
use Rattle.std.proofs.Math.Seq.{take_all}
use native.Mathlib.Nat.{min-le_right, mod-eq_of_lt}
use Rattle.ledger.specs.Calls.{after, answers}
use Rattle.store.specs.Store.{ledger_of, Good}
use Rattle.stream_print.specs.Printed.{printed, longest}
use Rattle.stream_sheets.specs.Sheets.{split_from}
use Rattle.stream.specs.declared.Place.{Place}
use Rattle.stream.specs.declared.Kiosk.{Kiosk}
use Rattle.stream.specs.Stream.{Ready, Stands, Took, Ended}
use Rattle.stream_console.specs.declared.Input.{Input}
use Rattle.stream_console.specs.declared.Output.{Output}
use Rattle.tillrun.specs.declared.Run.{Run}
use Rattle.stream_console.specs.Console.{CameIn, WentOut, unread, unwritten, noted, Received, Sent, Stopped, most_reads}
use Rattle.tillrun.specs.Program.{Opened, Turned, Going, Played}

-- a read gives no more than the piece has room for
pub few : {i : Input} {x : List ℕ} {i' : Input} → Received i x i' → i'.got ≤ length x
few {i} {x} r = rw (ap (λ (i : Input). i.got) r.note) (at r.answer)
  where
    at : (z : ℤ) → (noted i z (length x)).got ≤ length x
    at (pos k) = min-le_right k (length x)
    at (negsuc k) = omega arith

-- a text is sent whole
pub sent_whole : {u : Output} {w t : List ℕ} {u' : Output} → w ≡ t → Sent u (take (length w) w) u' → Sent u t u'
sent_whole {u} {w} {u' = u'} e s =
    subst (λ (z : List ℕ). Sent u z u') e (subst (λ (z : List ℕ). Sent u z u') (take_all (length w) w (omega arith)) s)

-- A law that says of what a function returns one thing of all that a need asks: `part (λ (x : Need) (y : Law). y)`,
-- where the law takes the values from x.
abbrev pub part : {A B : Type 0} → (A → B → B) → Type 0
part {B = B} _ = B

-- k' is as the answering left q, and no text waits
pub record Cleared (q k' : Kiosk) : Type 0 where
  pub store : k'.store.now ≡ q.store.now
  pub begun : k'.begun.now ≡ q.begun.now
  pub text : k'.text.now ≡ q.text.now
  pub place : k'.place ≡ record { filled = q.place.filled; fresh = q.place.fresh; text = 0 }

module _ {k : Kiosk} {r : Run} {k' : Kiosk} {x' : List ℕ} {r' : Run} where
  -- the text that waits where the answering left q is sent
  abbrev pub Answered : Turned k r k' x' r' → Kiosk → Type 0
  Answered _ q = Sent r.output (take q.place.text q.text.now) r'.output

  -- n bytes are answered, as many as the read gave
  abbrev pub Counted : Turned k r k' x' r' → ℕ → Type 0
  Counted _ n = n ≡ r'.input.got

  pub turned : {q : Kiosk} {n : ℕ} → longest * length x' ≤ length q.text.now → Took k (take n x') q
      → n ≡ r'.input.got → Received r.input x' r'.input → Sent r.output (take q.place.text q.text.now) r'.output
      → Cleared q k' → Turned k r k' x' r'
  turned {q} h m f received sent c =
      let e : r'.output.put ≡ q.place.text =
      ap (λ (u : Output). u.put) sent.note ∙ length-take-le q.place.text q.text.now (omega (arith, m.ready.text)) in
      let filled = ap (λ (p : Place). p.filled) c.place in
      let nothing = ap (λ (p : Place). p.text) c.place in
      record {
        ready = record {
          good = subst Good (sym c.store) m.ready.good;
          begun = ap length c.begun ∙ m.ready.begun;
          filled = omega (arith, filled, m.ready.filled);
          text = omega (arith, nothing, ap length c.text);
        };
        received = received;
        sent =
            subst (λ (n : ℕ). Sent r.output (take n k'.text.now) r'.output) (sym e)
            (subst (λ (o : List ℕ). Sent r.output (take q.place.text o) r'.output) (sym c.text) sent);
        none = nothing;
        stands = λ w b s.
            let now = subst (λ (n : ℕ). Stands w q (b ++ take n x')) f (m.stands w b s) in
            record {
              ledger = ap ledger_of c.store ∙ now.ledger;
              begun =
                  ap (λ (n : ℕ). take n k'.begun.now) filled
                  ∙ ap (take q.place.filled) c.begun ∙ now.begun;
              fresh = ap (λ (p : Place). p.fresh) c.place ∙ now.fresh;
              text =
                  ap (λ (n : ℕ). (w ++ take r'.output.put k'.text.now) ++ take n k'.text.now) nothing
                  ∙ append-nil (w ++ take r'.output.put k'.text.now)
                  ∙ ap (λ (n : ℕ). w ++ take n k'.text.now) e
                  ∙ ap (λ (o : List ℕ). w ++ take q.place.text o) c.text
                  ∙ now.text;
            };
      }

-- nothing is read or written yet
pub going_start : {k : Kiosk} {m n : ℕ} {i : Input} {u : Output} → m ≡ n → Opened k m
    → (i ≡ unread (pos 0)) × CameIn i [] → (u ≡ unwritten (pos 1)) × WentOut u []
    → Going k (record { input = i; output = u }) n
unfolding split_from after answers printed
going_start {k} e d f g =
    let filled = ap (λ (p : Place). p.filled) d.place in
    let nothing = ap (λ (p : Place). p.text) d.place in
    record {
      ready = subst (Ready k) e d.ready;
      none = nothing;
      read = [];
      written = [];
      through = record {
        from = ap (λ (i : Input). i.from) f.0;
        came = f.1;
        to = ap (λ (u : Output). u.to) g.0;
        went = g.1;
      };
      stands = record {
        ledger = d.empty_till.ledger;
        begun = ap (λ (n : ℕ). take n k.begun.now) filled;
        fresh = ap (λ (p : Place). p.fresh) d.place;
        text = ap (λ (n : ℕ). take n k.text.now) nothing;
      };
    }

pub going_on : {k : Kiosk} {r : Run} {n : ℕ} {k' : Kiosk} {x' : List ℕ} {r' : Run} → Going k r n
    → Turned k r k' x' r' → Going k' r' (length x')
going_on {k' = k'} {x' = x'} {r' = r'} g m = record {
  ready = m.ready;
  none = m.none;
  read = g.read ++ take r'.input.got x';
  written = g.written ++ take r'.output.put k'.text.now;
  through = record {
    from = ap (λ (i : Input). i.from) m.received.note ∙ g.through.from;
    came = m.received.came g.read g.through.came;
    to = ap (λ (u : Output). u.to) m.sent.note ∙ g.through.to;
    went = m.sent.went g.written g.through.went;
  };
  stands = m.stands g.written g.read g.stands;
}

-- the reads that are left
pub fewer : {r r' : ℕ} → r < most_reads → r' ≡ (r + 1) % 2 ^ 64 → most_reads - r' < most_reads - r
fewer {r} {r'} h e = omega (arith, e ∙ mod-eq_of_lt {n = r + 1} {m = 2 ^ 64} (omega (arith, h)))

module _ {k : Kiosk} {t : Run} {n : ℕ} (g : Going k t n) (s : Stopped t.input t.output) where
  -- a write failed
  pub played_cut : t.output.failed ≡ true → Played t.input t.output
  played_cut e = record {
    read = g.read;
    written = g.written;
    through = g.through;
    stopped = s;
    answered = inr (
      e,
      sym (append-nil g.written) ∙ ap (λ (m : ℕ). g.written ++ take m k.text.now) (sym g.none) ∙ g.stands.text,
    );
  }

  -- the sheet that had begun is answered too
  pub played_whole : {o' : List ℕ} {r : ℕ} {u : Output} → t.output.failed ≡ false
      → Ended k o' r → Sent t.output (take r o') u → Played t.input u
  played_whole {o'} {r} f m sent = record {
    read = g.read;
    written = g.written ++ take r o';
    through = record {
      from = g.through.from;
      came = g.through.came;
      to = ap (λ (u : Output). u.to) sent.note ∙ g.through.to;
      went = sent.went g.written g.through.went;
    };
    stopped = ⊎_elim inl (λ c. inr (⊎_elim (λ x. absurd (true≢false (sym x ∙ f))) inr c)) s;
    answered = inl (m.whole g.written g.read g.stands);
  }
