-- Laws of replies: a text that has place in the room, or none of it. Assumes nothing.
use Rattle.std.specs.Prelude.{◌≡◌, refl, Bool, true, false, cond, Option, Some, None, Ok, Err, List, [], ◌∷◌, map, ℕ, suc, ◌≤◌, ◌<◌, length}
use Rattle.std.proofs.Common.{sym, ap, ◌∙◌, subst, arith, ne_eqb}
use Rattle.row.specs.own.Row.{row_hasb}
use Rattle.text.specs.Split.{fields}
use Rattle.text.specs.Text.{Wrote}
use Rattle.text.specs.laws.Text.{wrote-whole}
use Rattle.store.specs.declared.Counts.{Counts}
use Rattle.store.specs.declared.Statement.{Statement}
use Rattle.store.specs.Cell.{Cell, cell_of}
use Rattle.store.specs.Cell.Cell.{In}
use Rattle.store.specs.Layout.{ClosedStore, Holds}
use Rattle.sheet.specs.declared.Ended.{Ended}
use Rattle.sheet.specs.declared.Refused.{Refused}
use Rattle.field.specs.declared.Form.TheVariants as form
use Rattle.field.specs.declared.StatementWord.{StatementWord}
use Rattle.field.specs.Names.{Names, counts_of}
use Rattle.sheet.specs.own.Pass.{Judges}
use Rattle.sheet.specs.Promise.{refused_text}
use Rattle.sheet.specs.Said.{Said, SheetStatement, line_of, outcome}
use Rattle.stated.specs.Stated.{statement_of}
use Rattle.sheet.specs.Said.Outcome.{accepted}
use Rattle.sheet.specs.own.Stands.{Opens, kept_table}
use Rattle.field.specs.own.Table.{Table, Tidy, names_of}
use Rattle.field.specs.Words.{body_of}
use Rattle.sheet.specs.laws.Count.{opens-held, opens-outcome}
use Rattle.sheet.specs.laws.Pass.{accepted-same}
use Rattle.reason.specs.own.Picked.{picked, picked_from}
use Rattle.why.specs.own.Asked.{Asked}
use Rattle.why.specs.Listed.{lines_of}
use Rattle.why.specs.Reason.{FollowsFrom, Reason}
use Rattle.why.specs.laws.Explained.{opens-counts}
use Rattle.why.specs.laws.Few.{statements-few}
use Rattle.finding.specs.laws.Finding.{broken-in}
use Rattle.cited.specs.declared.Absent.{Absent}
use Rattle.answer.specs.declared.FindingAsked.{FindingAsked}
use Rattle.question.specs.own.Asked.{Asking}
use Rattle.answer.specs.own.Asked.{FindingIf, FindingIn}
use Rattle.answer.specs.Promise.{Fitted, Replies}
use Rattle.answer.specs.Promise.Answers.{not-true, found, not-broken, broken, refused}
use Rattle.question.specs.Question.{AsksCell, AsksFinding, about_finding, bare}
use Rattle.cited.specs.Text.{absent_text, reason_text}
use Rattle.cited.specs.own.Writing.{Accepted, absent_if}
use Rattle.answer.specs.own.Reply.{CellReply, FindingReply, ReasonFits, ReasonSaid, Stored}

-- ---- the room

-- a text that has no place in the room
pub fitted-not : {text own out room : List ℕ} {n : ℕ} → Wrote own 0 text out n → n ≤ 800000 → length room < n → Fitted text room room n
fitted-not w s h = record { long = omega (arith, w.next); written = λ l. absurd (omega (arith, w.next)); left = λ l. refl; short = s }

-- a text that has
pub fitted-whole : {text own out room exit : List ℕ} {n r : ℕ} → Wrote own 0 text out n → n ≤ length room → Wrote room 0 text exit r → r ≤ 800000 → Fitted text room exit r
fitted-whole {text} w h z s =
    record {
      long = omega (arith, z.next);
      written = λ l. wrote-whole z l;
      left = λ l. absurd (omega (arith, w.next));
      short = s;
    }

-- ---- the reason

picked-map : {A B : Type 0} (f : A → B) (m : ℕ → Bool) (i : ℕ) (xs : List A) → picked_from m i (map f xs) ≡ map f (picked_from m i xs)
unfolding picked_from
picked-map f m i [] = refl
picked-map f m i (x ∷ xs) = go (m i) (picked-map f m (suc i) xs)
  where
    go : (b : Bool) → picked_from m (suc i) (map f xs) ≡ map f (picked_from m (suc i) xs)
        → cond b (f x ∷ picked_from m (suc i) (map f xs)) (picked_from m (suc i) (map f xs)) ≡ map f (cond b (x ∷ picked_from m (suc i) xs) (picked_from m (suc i) xs))
    go true e = ap (◌∷◌ (f x)) e
    go false e = e

-- a reason that is marked and written
pub reason-said : {sheet : List ℕ} {x : Said} {n : Counts} {c : Cell} {a : Option Absent} {marks room exit : List ℕ} {r : ℕ} (W : ℕ) (names : Names) → outcome W sheet ≡ accepted x → x.names ≡ names
    → Reason n c x.statements (picked marks x.statements) → ReasonFits sheet names a marks room exit r → ReasonSaid sheet x n c a room exit r
reason-said {sheet} {x} {a = a} {marks = marks} {room = room} {exit = exit} {r = r} W names o e z f =
    record {
      list = picked marks x.statements;
      reason = z;
      fits = subst (λ (m : Names). Fitted (reason_text sheet (lines_of (picked marks x.statements)) (absent_if m a)) room exit r) (sym e)
          (subst (λ (ks : List ℕ). Fitted (reason_text sheet ks (absent_if names a)) room exit r) (picked-map (λ (l : SheetStatement). l.line) (row_hasb marks) 0 x.statements) (f.fits W x o));
    }

-- an accepted sheet has few statements
pub asked-accepted : {sheet : List ℕ} {t : Table} {c : Cell} → Asked sheet t c → Accepted sheet
asked-accepted {sheet} a = record { width = a.sheet_said.width; said = a.sheet_said.said; ends = a.sheet_said.ends; few = statements-few a.sheet_said.width sheet a.sheet_said.said a.sheet_said.ends }

-- ---- what is known of the sheet

pub known-opens : {W : ℕ} {sheet s numbers u : List ℕ} {e : Ended} (w : Opens W sheet s numbers u e) {v : Unit {0}} → e.read ≡ Ok v → Stored W sheet (kept_table numbers e) u
known-opens w z = record { said = w.said; ends = opens-outcome w z; names = w.names; counts = opens-counts w; held = opens-held w z }

-- a refused sheet
pub reply-refused : {W : ℕ} {sheet s numbers u question room exit : List ℕ} {e : Ended} {r : ℕ} → Opens W sheet s numbers u e → {q : Refused} → e.read ≡ Err q → Fitted (refused_text q.line q.why) room exit r → Replies W sheet question room exit r
reply-refused w {q} z f = record { text = refused_text q.line q.why; answers = refused {n = q.line} {k = q.why} {x = w.said} (w.ends ∙ rw z); fitted = f }

-- a question asks for one cell
asks-unique : {n : Names} {q : List ℕ} {c d : Cell} → AsksCell n q c → AsksCell n q d → c ≡ d
asks-unique {n} {q} a b = a.cell ∙ ap (λ (w : StatementWord). cell_of (statement_of n w (body_of (fields q)))) (same_word (sym a.form ∙ b.form)) ∙ sym b.cell
  where
    same_word : {v w : StatementWord} → form.Statement v ≡ form.Statement w → v ≡ w
    same_word e = cc

module _ {W : ℕ} {sheet : List ℕ} {t : Table} {s : List ℕ} (k : Stored W sheet t s) where
  pub known-judges : Tidy sheet t → Judges W sheet t s
  known-judges y = record { tidy = y; sheet_said = record { width = W; said = k.said; ends = k.ends; names = k.names }; with = refl; store = subst (λ (n : Counts). ClosedStore W n s) k.counts k.held.store }

  -- a cell that holds in the store follows
  pub known-asked : (c : Cell) → Holds W t.counts s c → Asked sheet t c
  known-asked c h = record { sheet_said = record { width = W; said = k.said; ends = k.ends; names = k.names }; follows = follows }
    where
      here : FollowsFrom t.counts c k.said.statements
      here = subst (λ (n : Counts). FollowsFrom n c k.said.statements) k.counts (k.held.sound c (subst (λ (n : Counts). Holds W n s c) (sym k.counts) h))

      follows : (U : ℕ) (x : Said) → outcome U sheet ≡ accepted x → x.names ≡ names_of sheet t → FollowsFrom t.counts c x.statements
      follows U x o n = subst (λ (y : Said). FollowsFrom t.counts c y.statements) (accepted-same W U sheet k.ends o) here

  -- what holds by the table's counts holds by those of the names
  held-here : (c : Cell) → ¬ (Holds W t.counts s c) → ¬ (Holds W (counts_of k.said.names) s c)
  held-here c h = subst (λ (n : Counts). ¬ (Holds W n s c)) (sym k.counts) h

  -- ---- a question for a cell
  module _ (q : List ℕ) where
    not_so : {room exit : List ℕ} {m : ℕ} → ((c : Cell) → AsksCell (names_of sheet t) q c → ¬ (Holds W t.counts s c)) → Fitted (refused_text 0 24) room exit m → CellReply W sheet q room exit m
    not_so not f =
        record {
          reply = λ question e z. record {
            text = refused_text 0 24;
            answers = not-true k.ends k.held (ap about_finding e ∙ z)
                (λ c h. held-here c (not c (subst (λ (l : List ℕ). AsksCell (names_of sheet t) l c) e (subst (λ (n : Names). AsksCell n (bare question) c) k.names h))));
            fitted = f;
          };
        }

    pub cell-none : {room exit : List ℕ} {m : ℕ} → Asking (names_of sheet t) q None → Fitted (refused_text 0 24) room exit m → CellReply W sheet q room exit m
    cell-none a f = not_so (λ c h. absurd (a c h)) f

    module _ (r : Statement) (asks : AsksCell (names_of sheet t) q (cell_of r)) where
      pub cell-false : {room exit : List ℕ} {m : ℕ} → ¬ (Holds W t.counts s (cell_of r)) → Fitted (refused_text 0 24) room exit m → CellReply W sheet q room exit m
      cell-false not f = not_so (λ c h. subst (λ (d : Cell). ¬ (Holds W t.counts s d)) (asks-unique asks h) not) f

      pub cell-true : {room exit : List ℕ} {m : ℕ}
          → ((U : ℕ) (x : Said) → outcome U sheet ≡ accepted x → x.names ≡ names_of sheet t → ReasonSaid sheet x t.counts (cell_of r) None room exit m) → CellReply W sheet q room exit m
      cell-true {room} {exit} {m} h =
          let y = h W k.said k.ends k.names in
          record {
            reply = λ question i z. record {
              text = reason_text sheet (lines_of y.list) [];
              answers = found k.ends (ap about_finding i ∙ z) (subst (λ (n : Names). AsksCell n (bare question) (cell_of r)) (sym k.names) (subst (λ (l : List ℕ). AsksCell (names_of sheet t) l (cell_of r)) (sym i) asks))
                  (subst (λ (n : Counts). Reason n (cell_of r) k.said.statements y.list) (sym k.counts) y.reason);
              fitted = y.fits;
            };
          }

  -- ---- a question for a finding
  module _ (q : List ℕ) (about : about_finding q ≡ true) where
    -- what it asks for by the table's counts it asks for by those of the names
    asked-here : (r : Option FindingAsked) → ((U : ℕ) (x : Said) → outcome U sheet ≡ accepted x → x.names ≡ names_of sheet t → FindingIf W t.counts x s q r) → FindingIf W (counts_of k.said.names) k.said s q r
    asked-here r a = subst (λ (n : Counts). FindingIf W n k.said s q r) (sym k.counts) (a W k.said k.ends k.names)

    pub finding-none : {room exit : List ℕ} {m : ℕ} → ((U : ℕ) (x : Said) → outcome U sheet ≡ accepted x → x.names ≡ names_of sheet t → FindingIf W t.counts x s q None) → Fitted (refused_text 0 25) room exit m
        → FindingReply W sheet q room exit m
    finding-none a f =
        record {
          reply = λ question i. record {
            text = refused_text 0 25;
            answers = not-broken k.ends k.held (ap about_finding i ∙ about)
                (λ j b c d h z. asked-here None a b c d (record { rule = j; asks = subst (λ (l : List ℕ). AsksFinding k.said.names l (line_of k.said j) b) i h; broken = z }));
            fitted = f;
          };
        }

    module _ (r : FindingAsked) (a : (U : ℕ) (x : Said) → outcome U sheet ≡ accepted x → x.names ≡ names_of sheet t → FindingIf W t.counts x s q (Some r)) where
      there : FindingIn W (counts_of k.said.names) k.said s q r.item r.left r.right
      there = asked-here (Some r) a

      -- the item is in the left concept
      pub finding-asked : Asked sheet t (In r.item r.left)
      finding-asked = known-asked (In r.item r.left) (subst (λ (n : Counts). Holds W n s (In r.item r.left)) k.counts (broken-in there.broken))

      pub finding-true : {room exit : List ℕ} {m : ℕ}
          → ((U : ℕ) (x : Said) → outcome U sheet ≡ accepted x → x.names ≡ names_of sheet t → ReasonSaid sheet x t.counts (In r.item r.left) (Some (record { item = r.item; concept = r.right })) room exit m) → FindingReply W sheet q room exit m
      finding-true {room} {exit} {m} h =
          let y = h W k.said k.ends k.names in
          record {
            reply = λ question i. record {
              text = reason_text sheet (lines_of y.list) (absent_text k.said.names r.item r.right);
              answers = broken k.ends k.held (subst (λ (l : List ℕ). AsksFinding k.said.names l (line_of k.said there.rule) r.item) (sym i) there.asks) there.broken
                  (subst (λ (n : Counts). Reason n (In r.item r.left) k.said.statements y.list) (sym k.counts) y.reason);
              fitted = y.fits;
            };
          }
