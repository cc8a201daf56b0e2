-- What steps and rounds keep of a network goes on from one to the next.
use Rattle.std.proofs.Common.{◌≡◌, ◌≤◌, refl}
use Rattle.machine.specs.Law.{Shown}
use Rattle.collector.specs.Files.{FilesShown}
use Rattle.networks.specs.Networks.{Networked, rooms}
use Rattle.networks.specs.inner.KeptNetworks.{Keeps, KeepsGrown}
use Rattle.networks.proofs.Same.{same_refl, same_trans, grown_trans, same_grown}
use Rattle.networks.proofs.Touched.{nodes_touch_nothing, network_touches}
use Rattle.networks.proofs.lemmas.StallLaws.{growths_then}

module _ {M : Type 0} (shows : M → Shown) where
  pub keeps_refl : (n : Networked M) (f : FilesShown) → Keeps shows n f n f
  keeps_refl n f = record {
    same = same_refl n;
    right = λ s right. right;
    touches = nodes_touch_nothing n.nodes f f refl;
  }

  pub keeps_trans : (l m n : Networked M) (f g h : FilesShown) → Keeps shows l f m g
      → Keeps shows m g n h →
      Keeps shows l f n h
  keeps_trans l m n f g h a b = record {
    same = same_trans l m n a.same b.same;
    right = λ s right. b.right s (a.right s right);
    touches = network_touches (λ had has. has ≡ had) l m f g h a.same a.touches b.touches;
  }

  pub kept_grown : (m n : Networked M) (f g : FilesShown) → Keeps shows m f n g
      → KeepsGrown shows m f n g
  kept_grown m n f g k = record {
    same = same_grown m n k.same;
    growths = λ s right. (0, (let same = k.same in same.rooms));
    forest = λ s right forest. k.same;
    right = k.right;
    touches = k.touches;
  }

  pub grown_keeps_refl : (n : Networked M) (f : FilesShown) → KeepsGrown shows n f n f
  grown_keeps_refl n f = kept_grown n n f f (keeps_refl n f)

  pub grown_keeps_trans : (l m n : Networked M) (f g h : FilesShown) → KeepsGrown shows l f m g →
      KeepsGrown shows m g n h → KeepsGrown shows l f n h
  grown_keeps_trans l m n f g h a b = record {
    same = grown_trans l m n a.same b.same;
    growths = λ s right. growths_then s (rooms l) (rooms m) (rooms n) (a.growths s right)
        (b.growths s (a.right s right));
    forest = λ s right forest. same_trans l m n (a.forest s right forest)
        (b.forest s (a.right s right) forest);
    right = λ s right. b.right s (a.right s right);
    touches = network_touches (λ had has. had ≤ has) l m f g h a.same a.touches b.touches;
  }
