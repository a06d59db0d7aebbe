-- The close of descriptors keeps the agreement of descriptors, descriptions and pipes: a description goes exactly when no descriptor
-- names it any more, and a pipe when none names an end of it.
use Rattle.std.proofs.Common.{◌≡◌, ℕ, Bool, true, false, List, [], ◌∷◌, Option, Some, None, is_some, refl, sym, ap, ◌∙◌, inl, inr}
use Rattle.std.specs.Prelude.{◌⊎◌, ◌≢◌, ◌||◌, ◌==◌, if◌then◌else◌, option_map, option_and_then}
use Rattle.std.specs.Option.{option_map_or}
use Rattle.std.specs.List.{list_any}
use Rattle.std.specs.Ordering.{nat_cmp, eq_by_cmp}
use Rattle.std.specs.Cmp.{nat_cmp_total}
use Rattle.std.specs.FinMap.{FinMap, get, remove, values, contains_key, contains_key-keys, nat_cmp-IsAntisymmetric}
use Rattle.std.proofs.lemmas.Bool.{or_right, eqb-true, eq-eqb}
use Rattle.fd_table.specs.declared.table.Descriptor.{Descriptor}
use Rattle.fd_table.specs.Table.{Table}
use Rattle.file_tree.specs.FileTree.{FileTree}
use Rattle.finite_maps.proofs.Lookups.{differ, get-remove_same, get-remove_other}
use Rattle.finite_maps.proofs.Options.{chained_from, some_from}
use Rattle.finite_maps.proofs.Values.{found_where, any_value}
use Rattle.open_desc.specs.Descriptions.{is_end}
use Rattle.open_desc.specs.declared.description.Kind.{Kind}
use Rattle.open_desc.specs.declared.description.Kind.TheVariants.{Input, Output, Error, File, Dir, PipeRead, PipeWrite}
use Rattle.open_desc.specs.declared.description.Description.{Description}
use Rattle.kernel_core.specs.Agreement.{PipesAgree}
use Rattle.kernel_core.specs.Closing.{is_named, let_go_pipe, let_go, without_description, closed_unless_named, without_descriptor, close, close_all}
use Rattle.kernel_core.specs.Ends.{numbers_open, without_descriptors}
use Rattle.kernel_core.specs.Kernel.{Kernel, descriptor_at}
use Rattle.kernel_core.specs.Maps.{adjusted}
use Rattle.kernel_core.specs.PipeEnds.{names_end, end_left}
use Rattle.kernel_core.specs.Transfers.{pipe_of}
use Rattle.kernel_core.proofs.AgreementMaps.{none_some, same_key, removed_from, removed_key, adjusted_same, adjusted_other, adjusted_keys}

abbrev Tables : Type 0
Tables = FinMap nat_cmp Table

same_number : (a b : ℕ) → (a ≡ b) ⊎ (a ≢ b)
same_number = same_key nat_cmp_total nat_cmp-IsAntisymmetric

-- ---- some descriptor passes a test exactly if one stands in a table that does

abbrev held : Tables → ℕ → ℕ → Option Descriptor
held tables pid fd = option_and_then (λ (table : Table). get table fd) (get tables pid)

module _ (test : Descriptor → Bool) (tables : Tables) where
  abbrev some_passes : Bool
  some_passes = list_any (λ (table : Table). list_any test (values table)) (values tables)

  pub found_descriptor : some_passes ≡ true → (pid : ℕ) × (fd : ℕ) × (d : Descriptor) × (held tables pid fd ≡ Some d) × (test d ≡ true)
  found_descriptor any =
      let table = found_where nat_cmp_total (λ (table : Table). list_any test (values table)) tables any in
      let found = found_where nat_cmp_total test table.1 table.3 in
      (table.0, found.0, found.1, ap (option_and_then (λ (t : Table). get t found.0)) table.2 ∙ found.2, found.3)

  pub any_descriptor : (pid fd : ℕ) (d : Descriptor) → held tables pid fd ≡ Some d → test d ≡ true → some_passes ≡ true
  any_descriptor pid fd d at passes =
      let table = chained_from (λ (t : Table). get t fd) (get tables pid) d at in
      any_value (λ (t : Table). list_any test (values t)) tables pid table.0 table.1 (any_value test table.0 fd d table.2 passes)

-- ---- the tables without one descriptor

emptied : (fd : ℕ) (o : Option Table) → option_and_then (λ (t : Table). get t fd) (option_map (λ (t : Table). remove t fd) o) ≡ None
emptied fd None = refl
emptied fd (Some table) = get-remove_same nat_cmp_total table fd

unmoved : (fd f : ℕ) (o : Option Table) → f ≢ fd → option_and_then (λ (t : Table). get t f) (option_map (λ (t : Table). remove t fd) o) ≡ option_and_then (λ (t : Table). get t f) o
unmoved fd f None other = refl
unmoved fd f (Some table) other = get-remove_other nat_cmp_total nat_cmp-IsAntisymmetric table fd f other

module _ (tables : Tables) (pid fd : ℕ) where
  abbrev left : Tables
  left = adjusted tables pid (λ (table : Table). remove table fd)

  left_own : (f : ℕ) → held left pid f ≡ option_and_then (λ (t : Table). get t f) (option_map (λ (t : Table). remove t fd) (get tables pid))
  left_own f = ap (option_and_then (λ (t : Table). get t f)) (adjusted_same nat_cmp_total nat_cmp-IsAntisymmetric tables pid (λ (t : Table). remove t fd))

  left_none : held left pid fd ≡ None
  left_none = left_own fd ∙ emptied fd (get tables pid)

  left_or : (p f : ℕ) → ((p ≡ pid) × (f ≡ fd)) ⊎ (held left p f ≡ held tables p f)
  left_or p f =
      elim (same_number p pid) [
        | inl same ↦ elim (same_number f fd) [
          | inl alike ↦ inl (same, alike)
          | inr other ↦ inr (ap (λ (q : ℕ). held left q f) same ∙ left_own f ∙ unmoved fd f (get tables pid) other ∙ ap (λ (q : ℕ). held tables q f) (sym same))
        ]
        | inr other ↦ inr (ap (option_and_then (λ (t : Table). get t f)) (adjusted_other nat_cmp_total nat_cmp-IsAntisymmetric tables pid (λ (t : Table). remove t fd) p other))
      ]

  left_from : (p f : ℕ) (d : Descriptor) → held left p f ≡ Some d → held tables p f ≡ Some d
  left_from p f d at =
      elim (left_or p f) [
        | inl same ↦ absurd (none_some (ap (λ (q : ℕ). held left q f) same.0 ∙ ap (held left pid) same.1 ∙ left_none) at)
        | inr e ↦ sym e ∙ at
      ]

-- ---- what a close leaves: it changes files alone, adds nothing, and what agreed so far agrees

-- each pipe stays as it is, or goes
abbrev pub Shrinks : Kernel → Kernel → Type 0
Shrinks kernel kernel' = (pipe : ℕ) → (get kernel'.pipes pipe ≡ get kernel.pipes pipe) ⊎ (get kernel'.pipes pipe ≡ None)

-- so one that is there was there
pub there_before : (k k' : Kernel) → Shrinks k k' → (pipe : ℕ) → contains_key k'.pipes pipe ≡ true → contains_key k.pipes pipe ≡ true
there_before k k' shrinks pipe has =
    elim (shrinks pipe) [
      | inl same ↦ ap is_some (sym same) ∙ has
      | inr gone ↦ absurd (none_some gone (some_from _ has).1)
    ]

abbrev pub filed : Kernel → FileTree → Tables → FinMap nat_cmp Description → FinMap nat_cmp (List ℕ) → Kernel
filed kernel tree tables descriptions pipes = record kernel { tree = tree; descriptors = tables; descriptions = descriptions; pipes = pipes }

pub record Closes (Agreed : Type 0) (kernel kernel' : Kernel) : Type 0 where
  pub files : kernel' ≡ filed kernel kernel'.tree kernel'.descriptors kernel'.descriptions kernel'.pipes
  pub tables : (pid : ℕ) → contains_key kernel'.descriptors pid ≡ contains_key kernel.descriptors pid
  pub held : (pid fd : ℕ) (d : Descriptor) → descriptor_at kernel' pid fd ≡ Some d → descriptor_at kernel pid fd ≡ Some d
  pub descriptions : (number : ℕ) → contains_key kernel'.descriptions number ≡ true → contains_key kernel.descriptions number ≡ true
  pub pipes : Shrinks kernel kernel'
  pub agrees : Agreed → PipesAgree kernel'

-- where no more than the tree changes
tree_closes : {Agreed : Type 0} (kernel : Kernel) (tree : FileTree) → (Agreed → PipesAgree kernel) → Closes Agreed kernel (record kernel { tree = tree })
tree_closes kernel tree agrees = record {
  files = refl;
  tables = λ pid. refl;
  held = λ pid fd d at. at;
  descriptions = λ number has. has;
  pipes = λ number. inl refl;
  agrees = λ agreed. let a = agrees agreed in record { opened = a.opened; named = a.named; there = a.there };
}

-- ---- a pipe goes with its last end

-- one of its ends is left where a description is one
end_of : (pipe : ℕ) (kind : Kind) → pipe_of kind ≡ Some pipe → (is_end pipe true kind ≡ true) ⊎ (is_end pipe false kind ≡ true)
end_of pipe Input e = cc
end_of pipe Output e = cc
end_of pipe Error e = cc
end_of pipe (File node) e = cc
end_of pipe (Dir node) e = cc
end_of pipe (PipeRead number) e = let same : number ≡ pipe = cc in inr (eq-eqb number pipe same)
end_of pipe (PipeWrite number) e = let same : number ≡ pipe = cc in inl (eq-eqb number pipe same)

module _ (kernel : Kernel) (a : PipesAgree kernel) (number pipe : ℕ) (d : Description) (at : get kernel.descriptions number ≡ Some d) where
  left_by_one : (writing : Bool) → is_end pipe writing d.kind ≡ true → end_left kernel pipe writing ≡ true
  left_by_one writing is =
      let found = found_descriptor (λ (x : Descriptor). x.id == number) kernel.descriptors (a.named number (ap is_some at)) in
      any_descriptor (names_end kernel pipe writing) kernel.descriptors found.0 found.1 found.2 found.3
      (ap (λ o. option_map_or (λ (e : Description). is_end pipe writing e.kind) o false) (ap (get kernel.descriptions) (eqb-true found.2.id number found.4) ∙ at) ∙ is)

  some_left : pipe_of d.kind ≡ Some pipe → (end_left kernel pipe true || end_left kernel pipe false) ≡ true
  some_left is =
      elim (end_of pipe d.kind is) [
        | inl writes ↦ ap (λ b. b || end_left kernel pipe false) (left_by_one true writes)
        | inr reads ↦ or_right (end_left kernel pipe true) _ (left_by_one false reads)
      ]

pipe_closes : (kernel : Kernel) (pipe : ℕ) → Closes (PipesAgree kernel) kernel (let_go_pipe kernel pipe)
pipe_closes kernel pipe =
    elim (end_left kernel pipe true || end_left kernel pipe false) as (λ b. (end_left kernel pipe true || end_left kernel pipe false) ≡ b → Closes (PipesAgree kernel) kernel (if b then kernel else record kernel { pipes = remove kernel.pipes pipe })) [
      | true ↦ λ some. tree_closes kernel kernel.tree (λ a. a)
      | false ↦ λ none. record {
        files = refl;
        tables = λ pid. refl;
        held = λ pid fd d at. at;
        descriptions = λ number has. has;
        pipes = λ p.
            elim (same_number p pipe) [
              | inl same ↦ inr (ap (get (remove kernel.pipes pipe)) same ∙ get-remove_same nat_cmp_total kernel.pipes pipe)
              | inr other ↦ inl (get-remove_other nat_cmp_total nat_cmp-IsAntisymmetric kernel.pipes pipe p other)
            ];
        agrees = λ a. record {
          opened = a.opened;
          named = a.named;
          there = λ number p d at is.
              let other : p ≢ pipe = (λ same. let some = some_left kernel a number pipe d at (is ∙ ap Some same) in let never : ◌≡◌ {A = Bool} false true = sym none ∙ some in cc) in
              ap is_some (get-remove_other nat_cmp_total nat_cmp-IsAntisymmetric kernel.pipes pipe p other) ∙ a.there number p d at is;
        };
      }
    ] refl

let_go_closes : (kernel : Kernel) (kind : Kind) → Closes (PipesAgree kernel) kernel (let_go kernel kind)
let_go_closes kernel Input = tree_closes kernel kernel.tree (λ a. a)
let_go_closes kernel Output = tree_closes kernel kernel.tree (λ a. a)
let_go_closes kernel Error = tree_closes kernel kernel.tree (λ a. a)
let_go_closes kernel (File node) = tree_closes kernel _ (λ a. a)
let_go_closes kernel (Dir node) = tree_closes kernel _ (λ a. a)
let_go_closes kernel (PipeRead pipe) = pipe_closes kernel pipe
let_go_closes kernel (PipeWrite pipe) = pipe_closes kernel pipe

-- ---- a description goes once none names it

-- all agrees, but that one description may have no name
record AgreesBut (kernel : Kernel) (number : ℕ) : Type 0 where
  opened : (pid fd : ℕ) (d : Descriptor) → descriptor_at kernel pid fd ≡ Some d → contains_key kernel.descriptions d.id ≡ true
  named : (n : ℕ) → n ≢ number → contains_key kernel.descriptions n ≡ true → is_named kernel.descriptors n ≡ true
  there : (n pipe : ℕ) (d : Description) → get kernel.descriptions n ≡ Some d → pipe_of d.kind ≡ Some pipe → contains_key kernel.pipes pipe ≡ true

module _ (kernel : Kernel) (number : ℕ) where
  -- where it has one, or isn't there
  still_agrees : (contains_key kernel.descriptions number ≡ true → is_named kernel.descriptors number ≡ true) → AgreesBut kernel number → PipesAgree kernel
  still_agrees itself a = record {
    opened = a.opened;
    named = λ n has.
        elim (same_number n number) [
          | inl same ↦ ap (is_named kernel.descriptors) same ∙ itself (ap (contains_key kernel.descriptions) (sym same) ∙ has)
          | inr other ↦ a.named n other has
        ];
    there = a.there;
  }

  abbrev without : Kernel
  without = record kernel { descriptions = remove kernel.descriptions number }

  without_agrees : is_named kernel.descriptors number ≡ false → AgreesBut kernel number → PipesAgree without
  without_agrees none a = record {
    opened = λ pid fd d at.
        let other : d.id ≢ number = (λ same.
        let some = any_descriptor (λ (x : Descriptor). x.id == number) kernel.descriptors pid fd d at (eq-eqb d.id number same) in
        let never : ◌≡◌ {A = Bool} false true = sym none ∙ some in cc) in
        ap is_some (get-remove_other nat_cmp_total nat_cmp-IsAntisymmetric kernel.descriptions number d.id other) ∙ a.opened pid fd d at;
    named = λ n has. let was = removed_key nat_cmp_total nat_cmp-IsAntisymmetric kernel.descriptions number n has in a.named n was.0 was.1;
    there = λ n pipe d at is. a.there n pipe d (removed_from nat_cmp_total nat_cmp-IsAntisymmetric kernel.descriptions number n d at).1 is;
  }

  found_closes : (found : Option Description) → get kernel.descriptions number ≡ found → is_named kernel.descriptors number ≡ false → Closes (AgreesBut kernel number) kernel (option_map_or (without_description kernel number) found kernel)
  found_closes None e none = tree_closes kernel kernel.tree (still_agrees (λ has. absurd (let never : ◌≡◌ {A = Bool} false true = ap is_some (sym e) ∙ has in cc)))
  found_closes (Some d) e none =
      let gone = let_go_closes without d.kind in record {
        files = gone.files;
        tables = gone.tables;
        held = gone.held;
        descriptions = λ n has. (removed_key nat_cmp_total nat_cmp-IsAntisymmetric kernel.descriptions number n (gone.descriptions n has)).1;
        pipes = gone.pipes;
        agrees = λ a. gone.agrees (without_agrees none a);
      }

  unless_named_closes : Closes (AgreesBut kernel number) kernel (closed_unless_named kernel number)
  unless_named_closes =
      elim (is_named kernel.descriptors number) as (λ b. is_named kernel.descriptors number ≡ b → Closes (AgreesBut kernel number) kernel (if b then kernel else option_map_or (without_description kernel number) (get kernel.descriptions number) kernel)) [
        | true ↦ λ some. tree_closes kernel kernel.tree (still_agrees (λ has. some))
        | false ↦ found_closes (get kernel.descriptions number) refl
      ] refl

-- ---- one descriptor is closed

-- without it each description has a name still, but for its own
without_agrees_but : (kernel : Kernel) (pid fd : ℕ) (d : Descriptor) → descriptor_at kernel pid fd ≡ Some d → PipesAgree kernel → AgreesBut (without_descriptor kernel pid fd) d.id
without_agrees_but kernel pid fd d at a = record {
  opened = λ p f x now. a.opened p f x (left_from kernel.descriptors pid fd p f x now);
  named = λ n other has.
      let found = found_descriptor (λ (x : Descriptor). x.id == n) kernel.descriptors (a.named n has) in
      elim (left_or kernel.descriptors pid fd found.0 found.1) [
        | inl same ↦ absurd (other (
            let own : Some found.2 ≡ Some d = sym found.3 ∙ ap (λ (q : ℕ). held kernel.descriptors q found.1) same.0 ∙ ap (held kernel.descriptors pid) same.1 ∙ at in
            let is : found.2 ≡ d = cc in
            sym (eqb-true found.2.id n found.4) ∙ ap (λ (x : Descriptor). x.id) is))
        | inr e ↦ any_descriptor (λ (x : Descriptor). x.id == n) (left kernel.descriptors pid fd) found.0 found.1 found.2 (e ∙ found.3) found.4
      ];
  there = a.there;
}

pub close_closes : (kernel : Kernel) (pid fd : ℕ) → Closes (PipesAgree kernel) kernel (close kernel pid fd)
unfolding close
close_closes kernel pid fd =
    elim (descriptor_at kernel pid fd) as (λ found. descriptor_at kernel pid fd ≡ found → Closes (PipesAgree kernel) kernel (option_map_or (λ (d : Descriptor). closed_unless_named (without_descriptor kernel pid fd) d.id) found kernel)) [
      | None ↦ λ e. tree_closes kernel kernel.tree (λ a. a)
      | Some d ↦ λ e.
          let shut = unless_named_closes (without_descriptor kernel pid fd) d.id in record {
            files = shut.files;
            tables = λ p. shut.tables p ∙ adjusted_keys nat_cmp_total nat_cmp-IsAntisymmetric kernel.descriptors pid (λ (t : Table). remove t fd) p;
            held = λ p f x at. left_from kernel.descriptors pid fd p f x (shut.held p f x at);
            descriptions = shut.descriptions;
            pipes = shut.pipes;
            agrees = λ a. shut.agrees (without_agrees_but kernel pid fd d e a);
          }
    ] refl

-- and isn't open then
closed_none : (kernel : Kernel) (pid fd : ℕ) (d : Descriptor) → descriptor_at (close kernel pid fd) pid fd ≡ Some d → ⊥
unfolding close
closed_none kernel pid fd d at =
    (elim (descriptor_at kernel pid fd) as (λ found. descriptor_at kernel pid fd ≡ found → descriptor_at (option_map_or (λ (x : Descriptor). closed_unless_named (without_descriptor kernel pid fd) x.id) found kernel) pid fd ≡ Some d → ⊥) [
      | None ↦ λ e now. none_some e now
      | Some x ↦ λ e now. none_some (left_none kernel.descriptors pid fd) ((unless_named_closes (without_descriptor kernel pid fd) x.id).held pid fd d now)
    ]) refl at

-- ---- several

then_closes : {Agreed : Type 0} (k k' k'' : Kernel) → Closes Agreed k k' → Closes (PipesAgree k') k' k'' → Closes Agreed k k''
then_closes k k' k'' c d = record {
  files = d.files ∙ ap (λ (x : Kernel). filed x k''.tree k''.descriptors k''.descriptions k''.pipes) c.files;
  tables = λ pid. d.tables pid ∙ c.tables pid;
  held = λ pid fd x at. c.held pid fd x (d.held pid fd x at);
  descriptions = λ number has. c.descriptions number (d.descriptions number has);
  pipes = λ pipe.
      elim (d.pipes pipe) [
        | inl same ↦ elim (c.pipes pipe) [ inl before ↦ inl (same ∙ before) | inr gone ↦ inr (same ∙ gone) ]
        | inr gone ↦ inr gone
      ];
  agrees = λ a. d.agrees (c.agrees a);
}

pub close_all_closes : (pid : ℕ) (fds : List ℕ) (kernel : Kernel) → Closes (PipesAgree kernel) kernel (close_all kernel pid fds)
close_all_closes pid [] kernel = tree_closes kernel kernel.tree (λ a. a)
close_all_closes pid (fd ∷ fds) kernel =
    then_closes kernel (close kernel pid fd) (close_all kernel pid (fd ∷ fds)) (close_closes kernel pid fd) (close_all_closes pid fds (close kernel pid fd))

-- once all that were open are closed none is
none_open : (pid : ℕ) (fds : List ℕ) (kernel : Kernel) → ((fd : ℕ) (d : Descriptor) → descriptor_at kernel pid fd ≡ Some d → list_any (eq_by_cmp nat_cmp fd) fds ≡ true) → (fd : ℕ) (d : Descriptor) → descriptor_at (close_all kernel pid fds) pid fd ≡ Some d → ⊥
none_open pid [] kernel among fd d at = let never : ◌≡◌ {A = Bool} false true = among fd d at in cc
none_open pid (x ∷ fds) kernel among fd d at =
    none_open pid fds (close kernel pid x) (λ f y now.
    elim (same_number f x) [
      | inl same ↦ absurd (closed_none kernel pid x y (ap (descriptor_at (close kernel pid x) pid) (sym same) ∙ now))
      | inr other ↦
          sym (ap (λ b. b || list_any (eq_by_cmp nat_cmp f) fds) (differ nat_cmp-IsAntisymmetric f x other))
          ∙ among f y ((close_closes kernel pid x).held pid f y now)
    ]) fd d at

-- ---- a process without its descriptors

module _ (kernel : Kernel) (pid : ℕ) where
  abbrev all_closed : Kernel
  all_closed = close_all kernel pid (numbers_open (get kernel.descriptors pid))

  all_gone : (fd : ℕ) (d : Descriptor) → descriptor_at all_closed pid fd ≡ Some d → ⊥
  all_gone = none_open pid (numbers_open (get kernel.descriptors pid)) kernel (λ fd d at.
      let table = chained_from (λ (t : Table). get t fd) (get kernel.descriptors pid) d at in
      ap (λ o. list_any (eq_by_cmp nat_cmp fd) (numbers_open o)) table.1 ∙ sym (contains_key-keys table.0 fd) ∙ ap is_some table.2)

  pub descriptors_agree : PipesAgree kernel → PipesAgree (without_descriptors kernel pid)
  descriptors_agree before =
      let a = (close_all_closes pid (numbers_open (get kernel.descriptors pid)) kernel).agrees before in record {
        opened = λ p fd d at.
            let table = chained_from (λ (t : Table). get t fd) (get (without_descriptors kernel pid).descriptors p) d at in
            a.opened p fd d (ap (option_and_then (λ (t : Table). get t fd)) (removed_from nat_cmp_total nat_cmp-IsAntisymmetric all_closed.descriptors pid p table.0 table.1).1 ∙ table.2);
        named = λ n has.
            let found = found_descriptor (λ (x : Descriptor). x.id == n) all_closed.descriptors (a.named n has) in
            let other : found.0 ≢ pid = (λ same. all_gone found.1 found.2 (ap (λ (q : ℕ). held all_closed.descriptors q found.1) (sym same) ∙ found.3)) in
            any_descriptor (λ (x : Descriptor). x.id == n) (without_descriptors kernel pid).descriptors found.0 found.1 found.2
            (ap (option_and_then (λ (t : Table). get t found.1)) (get-remove_other nat_cmp_total nat_cmp-IsAntisymmetric all_closed.descriptors pid found.0 other) ∙ found.3)
            found.4;
        there = a.there;
      }
